-- How a stream of frames ends after some were lost, and then others.
use Rattle.std.proofs.Common.{◌≡◌, ◌++◌, ℕ, List, [], ◌∷◌, Option, None, Some, refl, sym, subst}
use Rattle.fuse_wire.specs.Sink.{Tail, Tears}
use Rattle.fuse_wire.specs.Sink.Tail.{Whole, Torn}
use Rattle.fuse_reply.specs.Deliver.{LeavesTail}
use Rattle.fuse_reply.specs.declared.out.Out.{Out}
use Rattle.fuse_reply.specs.declared.out.Out.TheVariants.{Frame, Note, Deferred}

-- nothing tears a stream that is torn, or of which nothing is told
pub LeavesTail-settled : (lost : List Out) (before after : Option Tail) → (before ≡ Some Whole → ⊥) → LeavesTail lost before after → after ≡ before
LeavesTail-settled [] before after settled ends = ends
LeavesTail-settled (Frame f ∷ lost) None after settled ends = ends
LeavesTail-settled (Frame f ∷ lost) (Some Whole) after settled ends = absurd (settled refl)
LeavesTail-settled (Frame f ∷ lost) (Some (Torn torn)) after settled ends = ends
LeavesTail-settled (Note id mark ∷ lost) before after settled ends = LeavesTail-settled lost before after settled ends
LeavesTail-settled (Deferred seq id ∷ lost) before after settled ends = LeavesTail-settled lost before after settled ends

-- so a stream that ends so after a frame was refused does so after more
Tears-then : (f : List ℕ) (lost : List Out) (a b c : Option Tail) → Tears f a b → LeavesTail lost b c → Tears f a c
Tears-then f lost None b c first second =
    LeavesTail-settled lost None c (λ is. let no : ⊥ = cc in no) (subst (λ (x : Option Tail). LeavesTail lost x c) first second)
Tears-then f lost (Some Whole) None c first second = absurd first
Tears-then f lost (Some Whole) (Some Whole) c first second = absurd first
Tears-then f lost (Some Whole) (Some (Torn torn)) c first second =
    let same : c ≡ Some (Torn torn) = LeavesTail-settled lost (Some (Torn torn)) c (λ is. let no : ⊥ = cc in no) second in
    subst (λ (x : Option Tail). Tears f (Some Whole) x) (sym same) first
Tears-then f lost (Some (Torn torn)) b c first second =
    LeavesTail-settled lost (Some (Torn torn)) c (λ is. let no : ⊥ = cc in no) (subst (λ (x : Option Tail). LeavesTail lost x c) first second)

-- these were lost, and then those
pub LeavesTail-then : (xs ys : List Out) (a b c : Option Tail) → LeavesTail xs a b → LeavesTail ys b c → LeavesTail (xs ++ ys) a c
LeavesTail-then [] ys a b c first second = subst (λ (x : Option Tail). LeavesTail ys x c) first second
LeavesTail-then (Frame f ∷ xs) ys a b c first second = Tears-then f ys a b c first second
LeavesTail-then (Note id mark ∷ xs) ys a b c first second = LeavesTail-then xs ys a b c first second
LeavesTail-then (Deferred seq id ∷ xs) ys a b c first second = LeavesTail-then xs ys a b c first second
