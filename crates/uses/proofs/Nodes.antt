-- What is allowed of a node or a name, once it is known which it is.
use Rattle.std.proofs.Common.{◌≡◌, ℕ, Bool, subst, sym}
use Rattle.std.specs.Prelude.{MatchBool}
use Rattle.fuse_reply.specs.Answer.{Answer}
use Rattle.uses.specs.declared.notepad_nodes.Node.{Node}
use Rattle.uses.specs.Notepad.{ByNode, node_of}

pub by-node : (P Q : Type 0) (a : Answer) (ino : ℕ) {n : Node} → node_of ino ≡ n → ByNode n P Q a → ByNode (node_of ino) P Q a
by-node P Q a ino is holds = subst (λ (n : Node). ByNode n P Q a) (sym is) holds

pub by-name : (P Q : Type 0) (b b' : Bool) → b ≡ b' → MatchBool b' P Q → MatchBool b P Q
by-name P Q b b' is holds = subst (λ (n : Bool). MatchBool n P Q) (sym is) holds
