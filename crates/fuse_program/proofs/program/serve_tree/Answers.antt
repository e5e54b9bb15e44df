use Rattle.std.proofs.Common.{◌≡◌, ◌≢◌, ◌⊎◌, ◌∙◌, subst, sym, refl, arith, Some, Bool, false, Ok, Err, inr}
use Rattle.fuse_wire.specs.Source.{SourceState}
use Rattle.fuse_wire.specs.Sink.{SinkState}
use Rattle.fuse_wire.specs.ByteSource.{ByteSourceState}
use Rattle.fuse_wire.specs.ByteSink.{ByteSinkState}
use Rattle.fuse_wire.specs.StreamSource.{stream_source_told}
use Rattle.fuse_wire.specs.StreamSink.{Stands, stream_sink_told}
use Rattle.fuse_session.specs.Complete.{SessionWell}
use Rattle.fuse_session.specs.Exchange.{Mounted}
use Rattle.fuse_session.specs.Headline.{Headline, Lossless, OrderedHeadline}
use Rattle.fuse_session.specs.Refused.{Untouched}
use Rattle.fuse_session.specs.declared.error.SessionError.TheVariants.{Memory}
use Rattle.fuse_program.specs.Program.{ByteExchange, form_setup}
use Rattle.fuse_program.specs.Status.{status}
use Rattle.fuse_hello.specs.Tree.{tree_promise, tree_may_init}
use Rattle.fuse_session.proofs.Refusing.{OptionsWell-none_listed}
use Rattle.fuse_program.proofs.Conversing.{AcceptsAll-tree, AnsweredBy-ended, ByteExchange-mounted, SessionWell-bytes, complete-status}
use Rattle.fuse_program.proofs.Statuses.{nine-untouched, zero-status}
use Rattle.fuse_program.proofs.Streams.{source-same, sink-same, carried}
use Rattle.fuse_program.proofs.program.serve_tree.Given.{Over}
use Rattle.fuse_program.proofs.program.serve_tree.Goals as goal

-- what the input tells at first and at last, and the output
abbrev first_in : (g : Over) → goal.After-drop-config g → ByteSourceState
first_in g c = g.I.ByteSource.told c.args.input

abbrev last_in : (g : Over) → goal.After-drop-config g → ByteSourceState
last_in g c = g.I.ByteSource.told c.into_inner.result

abbrev first_out : (g : Over) → goal.After-drop-config g → ByteSinkState
first_out g c = g.O.ByteSink.told c.args.output

abbrev last_out : (g : Over) → goal.After-drop-config g → ByteSinkState
last_out g c = g.O.ByteSink.told c.into_inner-2.result

-- what the sink tells at last
abbrev sink_at : (g : Over) → goal.After-drop-config g → SinkState
sink_at g c =
    let m = c.mount-source.result in stream_sink_told (g.O.ByteSink.told m.sink.origin.value) (g.O.ByteSink.told m.sink.inner) m.sink.broken m.sink.refused

-- what holds of the streams that were mounted holds of what the program was given and hands back
over_streams : (g : Over) (c : goal.After-drop-config g) (P : SourceState → SourceState → SinkState → Type 0)
    → P (stream_source_told (g.I.ByteSource.told c.new.result.inner)) (stream_source_told (g.I.ByteSource.told c.mount-source.result.source.inner))
    (stream_sink_told (g.O.ByteSink.told c.new-2.result.origin.value) (g.O.ByteSink.told c.new-2.result.inner) c.new-2.result.broken c.new-2.result.refused)
    → P (stream_source_told (first_in g c)) (stream_source_told (last_in g c)) (stream_sink_told (first_out g c) (first_out g c) false 0)
over_streams g c P p =
    let told_in = g.I.ByteSource.told in
    carried P _ _ _ _ _ _ (source-same told_in c.new.result.inner c.args.input c.new.ensures)
    (source-same told_in c.mount-source.result.source.inner c.into_inner.result (sym c.into_inner.ensures))
    (sink-same g.O.ByteSink.told c.new-2.result.origin.value c.new-2.result.inner c.args.output c.args.output c.new-2.result.broken false
    c.new-2.result.refused 0 c.new-2.ensures.origin c.new-2.ensures.held c.new-2.ensures.broken c.new-2.ensures.fresh) p

-- how the output stands at last
stands_at : (g : Over) (c : goal.After-drop-config g) → ∥ Stands (sink_at g c) (last_out g c) c.mount-source.result.sink.broken ∥₁
stands_at g c =
    let m = c.mount-source.result in
    subst (λ (k : SinkState). ∥ Stands k (last_out g c) m.sink.broken ∥₁)
    (sink-same g.O.ByteSink.told m.sink.origin.value c.into_inner-2.result m.sink.origin.value m.sink.inner m.sink.broken m.sink.broken
    m.sink.refused m.sink.refused refl c.into_inner-2.ensures.held refl refl) c.into_inner-2.ensures.stands

exit_is : (g : Over) (c : goal.After-drop-config g)
    → c.status_of.result ≡ status c.mount-source.result.outcome c.mount-source.result.transcript.lost c.mount-source.result.sink.broken
exit_is g c =
    let m = c.mount-source.result in
    subst (λ (b : Bool). c.status_of.result ≡ status m.outcome m.transcript.lost b) c.broken-broken.ensures c.status_of.ensures

-- the session over the bytes, where there was memory for it
exchanged : (g : Over) (c : goal.After-drop-config g) → c.status_of.result ≢ 9
    → ByteExchange c.args.form c.status_of.result (first_in g c) (last_in g c) (first_out g c) (last_out g c)
exchanged g c other =
    let m = c.mount-source.result in
    let begun : ¬ (Untouched m.outcome) = λ none. other (exit_is g c ∙ nine-untouched m.outcome m.transcript.lost m.sink.broken none) in
    ByteExchange-mounted c.args.form c.status_of.result m.outcome (first_in g c) (last_in g c) (first_out g c) (last_out g c)
    (sink_at g c) m.sink.broken m.transcript _ m.filesystem
    (over_streams g c (λ a b k. Mounted (form_setup c.args.form) _ m.filesystem m.outcome a b k (sink_at g c) m.transcript)
    (c.mount-source.ensures.session begun))
    (c.mount-source.ensures.accepted (AcceptsAll-tree _)) (stands_at g c) (exit_is g c)

pub returns-clause-answered : goal.returns-clause-answered
returns-clause-answered g c = λ well.
    let m = c.mount-source.result in
    let said = zero-status m.outcome m.transcript.lost m.sink.broken (sym (exit_is g c) ∙ well) in
    let headline =
    over_streams g c (λ a b k. Lossless k (sink_at g c) m.transcript
    → Headline tree_promise c.args.form.page c.args.form.acl c.args.form.owner _ a b k (sink_at g c))
    (c.mount-source.ensures.headline (λ many. refl) said.0) (inr said.1) in
    AnsweredBy-ended _ c.args.form (first_in g c) (last_in g c) (first_out g c) (last_out g c) (sink_at g c) m.sink.broken _ headline
    (stands_at g c) said.2

pub returns-clause-in_order : goal.returns-clause-in_order
returns-clause-in_order g c = λ well one.
    let m = c.mount-source.result in
    let said = zero-status m.outcome m.transcript.lost m.sink.broken (sym (exit_is g c) ∙ well) in
    let headline =
    over_streams g c (λ a b k. Lossless k (sink_at g c) m.transcript
    → OrderedHeadline tree_promise c.args.form.page c.args.form.acl c.args.form.owner _ a b k (sink_at g c))
    (c.mount-source.ensures.in_order (λ many. omega (arith, one, many)) said.0) (inr said.1) in
    AnsweredBy-ended _ c.args.form (first_in g c) (last_in g c) (first_out g c) (last_out g c) (sink_at g c) m.sink.broken _ headline
    (stands_at g c) said.2

pub returns-clause-session : goal.returns-clause-session
returns-clause-session g c = exchanged g c

pub returns-clause-complete : goal.returns-clause-complete
returns-clause-complete g c = λ fine.
    let m = c.mount-source.result in
    let ended =
    over_streams g c (λ a b k. SessionWell tree_may_init (Some c.args.form.threads) _ a b → (m.outcome ≡ Ok tt) ⊎ (m.outcome ≡ Err Memory))
    (c.mount-source.ensures.complete (OptionsWell-none_listed _ c.new-config.ensures.mount_options c.new-config.ensures.clone_fd))
    (SessionWell-bytes c.args.form (first_in g c) (last_in g c) (first_out g c) (last_out g c) _ fine) in
    complete-status c.args.form c.status_of.result m.transcript.lost m.sink.broken m.outcome (first_in g c) (last_in g c) (first_out g c) (last_out g c)
    (exit_is g c) (exchanged g c) fine.output_still ended
