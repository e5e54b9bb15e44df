use Rattle.std.proofs.Common.{◌≡◌, ◌+◌, ◌≤◌, ◌++◌, ◌∙◌, ℕ, Bool, true, false, List, Ok, ap, sym, subst, refl, arith, length, drop}
use Rattle.fuse_wire.specs.declared.no_memory.NoMemory.{NoMemory}
use Rattle.fuse_reply.specs.Adding.{Adds, ListingSeen}
use Rattle.fuse_reply.specs.Listing.{Fits, dirent, fitting, listing}
use Rattle.fuse_hello.specs.Tree.{member, members}
use Rattle.fuse_hello.proofs.Members.{joined-full, joined-next, joined-start, short-from, short-next}
use Rattle.fuse_hello.proofs.hello.add_members.Goals as goal

pub loop-place-init : goal.loop-place-init
loop-place-init c = record {
  same = refl;
  joined = joined-start c.args.reply.now.size c.args.offset c.min-first.result c.args.reply.now.held c.requires c.min-first.ensures;
  short = omega (arith, ap (λ (held : List ℕ). length held) c.requires, short-from c.min-first.result);
}

pub returns-then-full : goal.returns-then-full
returns-then-full c =
    let before = c.loop-place.invariant in
    let at = c.loop-place.place in
    let m = c.member-kind.result in
    let e = member m.0.0 (at + 1) m.1 m.2.now in
    let adds : Adds {E = NoMemory} (Ok true) (dirent e) c.loop-place.reply c.add.new.self =
    subst (λ (full : Bool). Adds {E = NoMemory} (Ok full) (dirent e) c.loop-place.reply c.add.new.self) c.if-full.true c.in-Ok.ensures.adds in
    let held = c.loop-place.reply.held in
    let whole = listing (fitting c.args.reply.now.size 0 (drop c.args.offset members)) in
    let all : held ≡ whole =
    joined-full c.args.reply.now.size at held whole e c.member-kind.ensures
    (subst (λ (size : ℕ). Fits size (length held) (length (dirent e)) → ⊥) (ap (λ (l : ListingSeen). l.size) before.same) adds.0) before.joined in
    adds.1 ∙ (before.same ∙ ap (λ (bytes : List ℕ). record c.args.reply.now { held = bytes }) all)

pub loop-place-preserved : goal.loop-place-preserved
loop-place-preserved c =
    let before = c.loop-place.invariant in
    let at = c.loop-place.place in
    let m = c.member-kind.result in
    let e = member m.0.0 (at + 1) m.1 m.2.now in
    let adds : Adds {E = NoMemory} (Ok false) (dirent e) c.loop-place.reply c.add.new.self =
    subst (λ (full : Bool). Adds {E = NoMemory} (Ok full) (dirent e) c.loop-place.reply c.add.new.self) c.if-full.false c.in-Ok.ensures.adds in
    let held = c.loop-place.reply.held in
    let size = c.args.reply.now.size in
    let whole = listing (fitting size 0 (drop c.args.offset members)) in
    let grown : held ++ dirent e ≡ c.add.new.self.held = sym (ap (λ (l : ListingSeen). l.held) adds.1) in
    record {
      same = adds.1 ∙ (ap (λ (l : ListingSeen). record l { held = held ++ dirent e }) before.same
          ∙ ap (λ (bytes : List ℕ). record c.args.reply.now { held = bytes }) grown);
      joined = subst (λ (bytes : List ℕ). bytes ++ listing (fitting size (length bytes) (drop (at + 1) members)) ≡ whole) grown
          (joined-next size at held whole e c.member-kind.ensures
          (subst (λ (s : ℕ). Fits s (length held) (length (dirent e))) (ap (λ (l : ListingSeen). l.size) before.same) adds.0) before.joined);
      short = subst (λ (bytes : List ℕ). length bytes + length (listing (drop (at + 1) members)) ≤ 136) grown
          (short-next at held e c.member-kind.ensures before.short);
    }
