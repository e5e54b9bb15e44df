-- The line that `load` wrote is the one that its stream has.
use Rattle.std.proofs.Common.{subst, IfSome, Option}
use Rattle.fuse_program.specs.Load.{WritesOneLine}
use Rattle.fuse_program.specs.declared.arguments.LoadForm.{LoadForm}
use Rattle.fuse_program.proofs.OneLine.{WritesOneLine-loads}
use Rattle.fuse_program.proofs.program.serve.Goals as goal

pub returns-in-Some-load_form-clause-one_line : goal.returns-in-Some-load_form-clause-one_line
returns-in-Some-load_form-clause-one_line g c ok =
    let told = g.O.ByteSink.told in
    let form = c.in-Some-load_form.form in
    subst (λ (o : Option LoadForm). IfSome o (λ form. WritesOneLine form (told c.args.output) (told c.load.result.output)))
    c.in-Some-load_form.ensures
    (WritesOneLine-loads form c.load.result.status (told c.args.output) (told c.load.result.output) ok c.load.ensures.loaded)
