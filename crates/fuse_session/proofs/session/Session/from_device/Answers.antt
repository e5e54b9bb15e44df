-- Why a session over a device is not opened.
use Rattle.std.proofs.Common.{◌∙◌, Err, ap}
use Rattle.fuse_session.proofs.Opening.{IfErr-map, device-refused, memory-alone, never-closed, never-closed_by_init, no-options}
use Rattle.fuse_session.proofs.session.Session.from_device.Goals as goal

pub returns-in-Ok-clause-complete : goal.returns-in-Ok-clause-complete
returns-in-Ok-clause-complete g c =
    IfErr-map c.open.result _ _ (λ e closed single well. absurd (never-closed closed.0 closed.1 well)) c.open.ensures.closed

pub returns-in-Ok-clause-accepted : goal.returns-in-Ok-clause-accepted
returns-in-Ok-clause-accepted g c =
    IfErr-map c.open.result _ _ (λ e closed accepts n. never-closed_by_init n closed.1 accepts) c.open.ensures.closed

pub returns-in-Ok-clause-options : goal.returns-in-Ok-clause-options
returns-in-Ok-clause-options g c error of = (
  λ failed. absurd (no-options c.open.result _ error of c.open.ensures.closed failed),
  λ refused. absurd (c.in-Ok.ensures.well refused.1),
)

pub returns-clause-complete : goal.returns-clause-complete
returns-clause-complete g c single well =
    ap (λ ended. ended.outcome) c.untouched.ensures ∙ ap Err (memory-alone c.args.config c.in-Err.error single c.in-Err.ensures.refused)

pub returns-clause-options : goal.returns-clause-options
returns-clause-options g c error of =
    device-refused c.args.config c.in-Err.error error c.untouched.result.outcome (ap (λ ended. ended.outcome) c.untouched.ensures) of
    c.in-Err.ensures.refused
