use Rattle.std.proofs.Common.{◌≡◌, ℕ, List, Ok, Some, ap, refl, sym, subst, inl, arith}
use Rattle.fuse_config.specs.declared.session_acl.SessionACL.TheVariants.{All}
use Rattle.fuse_session.specs.Exchange.{Mounted, setup_of}
use Rattle.fuse_session.specs.SessionEnd.{Outcome}
use Rattle.fuse_session.specs.Headline.{Headline, Lossless}
use Rattle.fuse_session.specs.Refused.{Untouched}
use Rattle.fuse_session.proofs.Refusing.{OptionsWell-none_listed}
use Rattle.fuse_hello.specs.Store.{Stored, messages_told, stored_told}
use Rattle.fuse_hello.specs.Tree.{tree_promise}
use Rattle.fuse_program.proofs.Loading.{Summarizes-ok, empty, failure-causes}
use Rattle.fuse_program.proofs.Messages.{HandshakeWell-stream, SessionWell-stream}
use Rattle.fuse_program.proofs.load.serve_generated.Goals as goal

pub returns-in-Ok-2-clause-served : goal.returns-in-Ok-2-clause-served
returns-in-Ok-2-clause-served g c =
    let m = c.mount-sink.result in
    let form = c.args.form in
    let ok : m.outcome ≡ Ok tt = c.in-Ok-2.is in
    let none : m.sink.starved ≡ 0 = omega (arith, c.if-starved-gt0.false, c.starved.ensures) in
    let started : c.with_room.result ≡ empty = c.with_room.ensures in
    let quiet : Lossless (stored_told empty) (stored_told m.sink) m.transcript =
    inl (record { same = none; counts = omega (arith, none) }) in
    let headline =
    subst (λ (k : Stored). Lossless (stored_told k) (stored_told m.sink) m.transcript
    → Headline tree_promise 4096 All 0 _ (messages_told c.in-Ok.messages) (messages_told m.source) (stored_told k) (stored_told m.sink)) started
    (c.mount-sink.ensures.headline (λ many. refl) ok) quiet in
    let mounted =
    subst (λ (o : Outcome). ¬ (Untouched o) → Mounted (setup_of tree_promise 4096 (Some form.threads) All 0) _ m.filesystem o
    (messages_told c.in-Ok.messages) (messages_told m.source) (stored_told c.with_room.result) (stored_told m.sink) m.transcript) ok
    c.mount-sink.ensures.session (λ no. no) in
    Summarizes-ok form _ m.filesystem m.source m.sink m.transcript c.summary.result (omega arith)
    (subst (λ (ms : List (List ℕ)). Headline tree_promise 4096 All 0 _ (messages_told ms) (messages_told m.source) (stored_told empty) (stored_told m.sink))
    c.in-Ok.ensures headline)
    (subst (λ (ms : List (List ℕ)). Mounted (setup_of tree_promise 4096 (Some form.threads) All 0) _ m.filesystem (Ok tt)
    (messages_told ms) (messages_told m.source) (stored_told empty) (stored_told m.sink) m.transcript) c.in-Ok.ensures
    (subst (λ (k : Stored). Mounted (setup_of tree_promise 4096 (Some form.threads) All 0) _ m.filesystem (Ok tt)
    (messages_told c.in-Ok.messages) (messages_told m.source) (stored_told k) (stored_told m.sink) m.transcript) started mounted))
    c.summary.ensures

pub returns-clause-causes : goal.returns-clause-causes
returns-clause-causes g c =
    let m = c.mount-sink.result in
    let form = c.args.form in
    let well = OptionsWell-none_listed _ c.new-config.ensures.mount_options c.new-config.ensures.clone_fd in
    let stored = sym c.in-Ok.ensures in
    failure-causes c.in-Err.error m.outcome form.threads c.in-Err.is
    (λ some. c.mount-sink.ensures.complete well (rw (← stored) (SessionWell-stream form.seed form.count form.threads _ m.source some)))
    (λ no_thread. c.mount-sink.ensures.unserved (ap Some no_thread) well (rw (← stored) (HandshakeWell-stream form.seed form.count _ m.source)))
