-- That what came back is the frame for its token.
use Rattle.std.proofs.Common.{◌≡◌, subst, sym, ℕ}
use Rattle.fuse_reply.specs.Late.{IsFrameFor}
use Rattle.fuse_reply.specs.declared.out.Out.{Out}

pub came_back : (id again : ℕ) (frame back : Out) → again ≡ id → back ≡ frame → IsFrameFor id frame → IsFrameFor again back
came_back id again frame back same is sent =
    subst (λ (n : ℕ). IsFrameFor n back) (sym same) (subst (λ (out : Out). IsFrameFor id out) (sym is) sent)
