-- Why a session is not opened.
use Rattle.std.proofs.Common.{◌∙◌, Err, ap}
use Rattle.fuse_session.proofs.Opening.{IfErr-map, never-closed, never-closed_by_init, no-options}
use Rattle.fuse_session.proofs.Refusing.{Memory-not_begun, OptionsWell-none, refused-not_begun}
use Rattle.fuse_session.proofs.session.Session.new.Goals as goal

pub returns-in-Ok-clause-complete : goal.returns-in-Ok-clause-complete
returns-in-Ok-clause-complete g c =
    IfErr-map c.open.result _ _ (λ e closed options well. absurd (never-closed closed.0 closed.1 well)) c.open.ensures.closed

pub returns-in-Ok-clause-accepted : goal.returns-in-Ok-clause-accepted
returns-in-Ok-clause-accepted g c =
    IfErr-map c.open.result _ _ (λ e closed accepts n. never-closed_by_init n closed.1 accepts) c.open.ensures.closed

pub returns-in-Ok-clause-options : goal.returns-in-Ok-clause-options
returns-in-Ok-clause-options g c error of = (
  λ failed. absurd (no-options c.open.result _ error of c.open.ensures.closed failed),
  λ refused. absurd (OptionsWell-none c.args.config.now c.in-Ok.ensures.well error refused),
)

pub returns-in-Err-clause-complete : goal.returns-in-Err-clause-complete
returns-in-Err-clause-complete g c options well =
    ap (λ ended. ended.outcome) c.untouched.ensures ∙ ap Err (Memory-not_begun c.args.config.now c.in-Err.error options c.in-Err.ensures.refused)

pub returns-in-Err-clause-options : goal.returns-in-Err-clause-options
returns-in-Err-clause-options g c =
    refused-not_begun c.args.config.now c.in-Err.error c.in-Err.ensures.refused c.untouched.result.outcome
    (ap (λ ended. ended.outcome) c.untouched.ensures)
