-- How the items of two lists stand to each other: in turn, or each to another one at some place. And what goes out for messages:
-- the messages with their numbers, what the prompts among parcels hold, and the frames, notes, marks and lost ones that these are.
use Rattle.std.specs.Prelude.{◌≡◌, ◌⊎◌, ◌++◌, ℕ, suc, List, [], ◌∷◌}
use Rattle.fuse_wire.specs.Sink.{Note as Noted}
use Rattle.fuse_reply.specs.declared.out.Out.{Out}
use Rattle.fuse_reply.specs.declared.out.Out.TheVariants.{Frame, Note, Deferred}
use Rattle.fuse_reply.specs.declared.parcel.Parcel.{Parcel}
use Rattle.fuse_reply.specs.declared.parcel.Parcel.TheVariants.{Prompt, Notice, Late}
use Rattle.fuse_core.specs.OnePerMessage.{number_of}

-- each item stands in it to the item at its own place of the other list, and there are no more
abbrev pub InTurn : {A B : Type 0} → (A → B → Type 0) → List A → List B → Type 0
InTurn R [] ys = ys ≡ []
InTurn {A} {B} R (x ∷ xs) ys = (y : B) × (rest : List B) × (ys ≡ y ∷ rest) × R x y × InTurn R xs rest

-- each item in turn stands in it to the item at some place of the other list, which is then left without that place
abbrev pub Pairs : {A B : Type 0} → (A → B → Type 0) → List A → List B → Type 0
Pairs R [] ys = ys ≡ []
Pairs {A} {B} R (x ∷ xs) ys = (b : List B) × (y : B) × (a : List B) × (ys ≡ b ++ y ∷ a) × R x y × Pairs R xs (b ++ a)

-- messages with their numbers, from this place on
abbrev pub numbered : ℕ → List (List ℕ) → List (ℕ × List ℕ)
numbered place [] = []
numbered place (m ∷ ms) = (number_of place, m) ∷ numbered (suc place) ms

-- what the prompts hold, in order
abbrev pub outs_of : List Parcel → List Out
outs_of [] = []
outs_of (Prompt seq out ∷ parcels) = out ∷ outs_of parcels
outs_of (Notice frame ∷ parcels) = outs_of parcels
outs_of (Late frame ∷ parcels) = outs_of parcels

-- each out, in order, is the first frame that is left, or the first note, or the first mark, or the first of what was lost
abbrev pub Parts : (outs : List Out) → (frames : List (List ℕ)) → (notes marks : List Noted) → (lost : List Out) → Type 0
Parts [] frames notes marks lost = (frames ≡ []) × (notes ≡ []) × (marks ≡ []) × (lost ≡ [])
Parts (out ∷ outs) frames notes marks lost =
    ((f : List ℕ) × (rest : List (List ℕ)) × (frames ≡ f ∷ rest) × (out ≡ Frame f) × Parts outs rest notes marks lost)
    ⊎ ((n : Noted) × (rest : List Noted) × (notes ≡ n ∷ rest) × (out ≡ Note (record { 0 = n.0 }) n.1) × Parts outs frames rest marks lost)
    ⊎ ((n : Noted) × (rest : List Noted) × (marks ≡ n ∷ rest) × (out ≡ Deferred n.0 (record { 0 = n.1 })) × Parts outs frames notes rest lost)
    ⊎ ((rest : List Out) × (lost ≡ out ∷ rest) × Parts outs frames notes marks rest)
