use Rattle.relaying.proofs.RelayLaws.{relay-held, relay-covered, relay_absent}
use Rattle.words.specs.Xor.{xorl}
use Rattle.base.specs.Lists.{part}
use Prim.Native.Nat.{◌+◌, ◌-◌}
use native.Mathlib.Omega.{arith}
use mathlib.Core.Path.{◌≡◌, refl, sym, ◌∙◌}
use borrow.Rule.Slice.PartMut.{same_len_mid}
use Rattle.relaying.proofs.relay.Goals as goal
use Rattle.relaying.proofs.relay.Goals.{else-has-via-then-has+else-m-k, else-has-via-else-has}

pub returns-then-m-k : goal.returns-then-m-k
returns-then-m-k c =
    let a = c.args in
    let pre = c.requires in
    let r = c.meet-m.result in
    let n : r.at + r.n - r.at ≡ r.n = omega arith in
    let m : r.from + r.n - r.from ≡ r.n = omega arith in
    let ey : c.xor.new.d ≡ xorl (part r.at r.n a.k.now) (part r.from r.n a.written.now.bytes.now) = rw (n, m) at c.xor.ensures in
    relay-held a.flake.nugget a.flake.number a.flake.size a.at (a.flake.start + a.at) a.written.now.offset a.written.now.bytes.now a.stored.now a.k.now r.at r.n r.from c.meet-m.ensures ey (sym c.has.ensures ∙ c.if-has.true) pre.1 (rw n refl) c.pad_from.ensures c.lay_beside.ensures c.lay_beside-then-m-k.ensures

pub returns-else-has : goal.returns-else-has
returns-else-has c =
    let a = c.args in
    let pre = c.requires in
    let r = c.meet-m.result in
    let n : r.at + r.n - r.at ≡ r.n = omega arith in
    let m : r.from + r.n - r.from ≡ r.n = omega arith in
    let ey : c.xor.new.d ≡ xorl (part r.at r.n a.k.now) (part r.from r.n a.written.now.bytes.now) = rw (n, m) at c.xor.ensures in
    elim c.else-has.branch [
      | else-has-via-then-has+else-m-k w ↦
          let long = same_len_mid r.at (r.at + r.n - r.at) a.k.now c.xor.new.d c.xor.auto.d in
          rw n (relay-covered a.flake.nugget a.flake.number a.flake.size a.at (a.flake.start + a.at) a.written.now.offset a.written.now.bytes.now a.stored.now a.k.now r.at r.n r.from c.meet-m.ensures ey (omega (arith, long, w.if-m-k.false)))
      | else-has-via-else-has w ↦
          rw n (relay_absent a.flake.nugget a.flake.number a.flake.size a.at (a.flake.start + a.at) a.written.now.offset a.written.now.bytes.now a.stored.now a.k.now r.at r.n r.from c.meet-m.ensures ey (sym c.has.ensures ∙ w.if-has.false))
    ]
