use mathlib.Core.Path.{◌≡◌, refl, ◌∙◌}
use Prim.Native.Nat.{ℕ, ◌+◌, ◌-◌, ◌%◌, ◌≤◌}
use native.Mathlib.Omega.{arith}
use lib.ListN.{length, replicate, length-replicate}
use borrow.Rule.Slice.PartMut.{mid_of, mid_len}
use Rattle.layout.specs.Spots.{offset_at}
use Rattle.layout.proofs.Limits.{limits, placed}
use Rattle.sectors.proofs.SectorLaws.{length-decrypted}
use Rattle.nuggets.specs.Nugget.{contents_in}
use Rattle.laying.proofs.FlakeLaws.{offset_room}
use Rattle.handing.specs.Handing.{import_bytes}
use Rattle.importing.proofs.WindowLaws.{laid-opened}
use Rattle.importing.proofs.encrypted.EncryptedSource.lay_flake.Goals as goal

-- so many bytes of scratch hold the sectors that the flake meets
scratch-long : (n : ℕ) → n ≤ 4608 → length (mid_of 0 (n - 0) (replicate {A = ℕ} 4608 0)) ≡ n
scratch-long n h =
    let long : length (mid_of 0 (n - 0) (replicate {A = ℕ} 4608 0)) ≡ n - 0 = mid_len 0 n (replicate 4608 0) (omega (arith, h, length-replicate {A = ℕ} 4608 0)) in
    omega (arith, long)

pub slice_bounds-scratch-end : goal.slice_bounds-scratch-end
slice_bounds-scratch-end c =
    let m = limits c.args.s c.requires.0.limited in
    omega (arith, m.short, length-replicate {A = ℕ} 4608 0)

pub open-requires : goal.open-requires
open-requires c =
    let a = c.args in
    let q = c.requires in
    let m = limits a.s q.0.limited in
    let start = c.offset_of-start.result in
    let is : start ≡ offset_at a.s a.lock.number a.f 0 = placed a.s q.0.limited c.offset_of-start.ensures in
    let long = scratch-long c.next_multiple_of-n.result (omega (arith, m.short)) in
    let all = offset_room a.s a.vol.now a.lock.number a.f q.0 q.1 q.2 in
    let whole = a.self.now.whole in
    (omega (arith, long), omega (arith, long, is, all, q.3, whole))

pub returns : goal.returns
returns c =
    let a = c.args in
    let q = c.requires in
    let x = a.self.now in
    let m = limits a.s q.0.limited in
    let start = c.offset_of-start.result in
    let n = c.next_multiple_of-n.result in
    let bytes = import_bytes x.one x.two x.bytes.now in
    let is : start ≡ offset_at a.s a.lock.number a.f 0 = placed a.s q.0.limited c.offset_of-start.ensures in
    let all = offset_room a.s a.vol.now a.lock.number a.f q.0 q.1 q.2 in
    let whole : length bytes ≡ length x.bytes.now = length-decrypted x.one x.two 0 x.bytes.now x.whole in
    let room : start + a.s.f ≤ length bytes = omega (arith, whole, is, all, q.3) in
    let long = scratch-long n (omega (arith, m.short)) in
    laid-opened a.s a.lock a.f bytes (contents_in a.s a.vol.now a.g a.f) a.vol.now start n (start % 512) (start % 512 + a.s.f - start % 512) _
    is room refl (omega arith) (omega arith) (c.open.auto.scratch ∙ long) (rw long at c.open.ensures) c.lay_flake.ensures
