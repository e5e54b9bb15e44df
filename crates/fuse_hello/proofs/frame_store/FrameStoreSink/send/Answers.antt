use Rattle.std.proofs.Common.{◌≡◌, ◌∙◌, ◌-◌, ◌++◌, ◌≤◌, ℕ, List, Bool, true, false, leb, subst, sym, ap, length, arith, length-append, if◌then◌else◌}
use mir.Val.{bool_byte}
use Rattle.fuse_hello.specs.Store.{IsStored}
use Rattle.fuse_hello.proofs.Storing.{IsFrame-parts, IsStored-aside, IsStored-reply, IsStored-small, Sends-frame, SendsStored-frame, aside-status, error-status}
use Rattle.fuse_hello.proofs.frame_store.FrameStoreSink.send.Goals as goal

pub invariant_of-self-then-is_notice : goal.invariant_of-self-then-is_notice
invariant_of-self-then-is_notice c =
    let header = c.args.header.now in
    let payload = c.args.payload.now in
    let whole = IsFrame-parts header payload c.told-header c.requires in
    let aside = aside-status header payload c.u32_at-status.result c.is_notice.result c.told-header c.u32_at-status.ensures c.is_notice.ensures in
    subst (λ (bytes : List ℕ). IsStored bytes c.self.inside.replies c.self.inside.errors c.self.inside.reply_bytes) (sym c.in-Ok.ensures.ok)
    (IsStored-aside c.self.inside.bytes.items (header ++ payload) c.self.inside.replies c.self.inside.errors c.self.inside.reply_bytes
    (aside ∙ c.if-is_notice.true) whole c.self.invariant)

pub returns-then-is_notice : goal.returns-then-is_notice
returns-then-is_notice c =
    let header = c.args.header.now in
    let payload = c.args.payload.now in
    let whole = IsFrame-parts header payload c.told-header c.requires in
    record {
      sends = rw (← c.self.view_is) (rw c.in-Ok.ensures.ok (Sends-frame c.self.inside.bytes.items (header ++ payload) _ c.self.inside.starved
          c.self.invariant.joined c.self.invariant.each whole));
      exactly = rw (← c.self.view_is) (rw c.in-Ok.ensures.ok (SendsStored-frame c.self.inside.bytes.items (header ++ payload) _ c.self.inside.starved
          c.self.invariant.joined c.self.invariant.each whole));
    }

pub overflow_add-self : goal.overflow_add-self
overflow_add-self c =
    let small = IsStored-small c.self.inside.bytes.items c.self.inside.replies c.self.inside.errors c.self.inside.reply_bytes c.self.invariant in
    omega (arith, small.0, c.len-held.ensures)

at_most_one : (b : Bool) (n : ℕ) → n ≡ bool_byte b → n ≤ 1
at_most_one true n is = omega (arith, is)
at_most_one false n is = omega (arith, is)

pub overflow_add-self-2 : goal.overflow_add-self-2
overflow_add-self-2 c =
    let small = IsStored-small c.self.inside.bytes.items c.self.inside.replies c.self.inside.errors c.self.inside.reply_bytes c.self.invariant in
    omega (arith, small.1, c.len-held.ensures, at_most_one (leb 2147483648 c.u32_at-status.result) c.from.result c.from.ensures)

pub overflow_add-self-3 : goal.overflow_add-self-3
overflow_add-self-3 c =
    let small = IsStored-small c.self.inside.bytes.items c.self.inside.replies c.self.inside.errors c.self.inside.reply_bytes c.self.invariant in
    omega (arith, small.2, c.len-held.ensures, c.len.ensures)

one_if : (b : Bool) (n : ℕ) → n ≡ bool_byte b → n ≡ (if b then 1 else 0)
one_if true n is = is
one_if false n is = is

pub invariant_of-self-2 : goal.invariant_of-self-2
invariant_of-self-2 c =
    let header = c.args.header.now in
    let payload = c.args.payload.now in
    let frame = header ++ payload in
    let held = c.self.inside.bytes.items in
    let status = c.u32_at-status.result in
    let whole = IsFrame-parts header payload c.told-header c.requires in
    let reply = aside-status header payload status c.is_notice.result c.told-header c.u32_at-status.ensures c.is_notice.ensures ∙ c.if-is_notice.false in
    let error = error-status header payload status c.told-header c.u32_at-status.ensures in
    let stored =
    IsStored-reply (leb 2147483648 status) held frame c.self.inside.replies c.self.inside.errors c.self.inside.reply_bytes reply error whole c.self.invariant in
    let one : c.from.result ≡ (if leb 2147483648 status then 1 else 0) = one_if (leb 2147483648 status) c.from.result c.from.ensures in
    let size : c.len.result - c.len-held.result ≡ length frame =
    omega (arith, c.len.ensures, c.len-held.ensures, ap (λ (b : List ℕ). length b) c.in-Ok.ensures.ok, length-append held frame) in
    rw c.in-Ok.ensures.ok (rw one (rw size stored))

pub returns : goal.returns
returns c =
    let header = c.args.header.now in
    let payload = c.args.payload.now in
    let whole = IsFrame-parts header payload c.told-header c.requires in
    record {
      sends = rw (← c.self.view_is) (rw c.in-Ok.ensures.ok (Sends-frame c.self.inside.bytes.items (header ++ payload) _ c.self.inside.starved
          c.self.invariant.joined c.self.invariant.each whole));
      exactly = rw (← c.self.view_is) (rw c.in-Ok.ensures.ok (SendsStored-frame c.self.inside.bytes.items (header ++ payload) _ c.self.inside.starved
          c.self.invariant.joined c.self.invariant.each whole));
    }
