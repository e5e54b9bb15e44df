use Rattle.std.proofs.Common.{◌∙◌, sym}
use Rattle.templates.proofs.Keeping.{denied}
use Rattle.templates.proofs.keeper_only.KeeperOnlyFilesystem.unlink.Goals as goal

-- somebody else than the keeper asks
pub returns-then-denies : goal.returns-then-denies
returns-then-denies g c = denied _ _ (sym c.denies.ensures ∙ c.if-denies.true) (λ allowed. allowed) c.error.ensures.answer c.error.ensures.reply
