-- "Furthest behind is the smallest exact fraction [..]; the earliest line wins a tie."
use mathlib.Core.Path.{◌≡◌, refl, sym, ◌∙◌}
use mathlib.Core.Bool.{true, false}
use mathlib.Core.Logic.{◌⊎◌, inl, inr}
use mathlib.Core.List.{List, [], ◌∷◌}
use Prim.Native.Nat.{ℕ, zero, suc, ◌+◌, ◌-◌, ◌*◌, ◌<◌, ◌≤◌}
use native.Mathlib.Nat.{mul-le-mul_right, mul-lt-mul_of_pos_right}
use native.Mathlib.Omega.{arith}
use lib.Dec.{eqb, ltb}
use lib.ListN.{length, take}
use lib.Seq.{take-suc, take-length}
use borrow.Author.Tests.{lt-ltb, le-ltb, ltb-true, ltb-false, eqb-true, eqb-false}
use Rattle.base.specs.Lists.{fold}
use Rattle.base.proofs.PickLaws.{told}
use Rattle.base.proofs.FoldLaws.{fold-append}
use Rattle.standings.specs.declared.Standing.{Standing}
use Rattle.standings.specs.Standing.{possible}
use Rattle.standings.proofs.StandingLaws.{possible_is}
use Rattle.totals.specs.declared.Fleet.{Fleet}
use Rattle.totals.specs.Fleet.{fraction_of, is_behind, nothing, nobody, is_last, joined, fleet_of, drive_at, Furthest}
use Rattle.totals.proofs.FleetLaws.{fraction_empty, fraction_flakes, last-first, last-later}
use Rattle.totals.proofs.FullLaws.{AllPossible}

-- a possible drive's fraction is of something
all-some : (t : Standing) → possible t ≡ true → 1 ≤ (fraction_of t).all
all-some t p = go (told (eqb t.counts.flakes 0))
  where
    go : (eqb t.counts.flakes 0 ≡ true) ⊎ (eqb t.counts.flakes 0 ≡ false) → 1 ≤ (fraction_of t).all
    go (inl e) = rw (sym (fraction_empty t (eqb-true t.counts.flakes 0 e))) (possible_is t p).some
    go (inr e) =
        let ne = eqb-false t.counts.flakes 0 e in
        rw (sym (fraction_flakes t ne)) (omega (arith, ne))

-- fractions in order: x / a < y / b and y / b ≤ z / c
less_trans : (x a y b z c : ℕ) → 1 ≤ c → x * b < y * a → y * c ≤ z * b → x * c < z * a
less_trans x a y b z c pos h k = go (told (ltb (x * c) (z * a)))
  where
    go : (ltb (x * c) (z * a) ≡ true) ⊎ (ltb (x * c) (z * a) ≡ false) → x * c < z * a
    go (inl e) = ltb-true (x * c) (z * a) e
    go (inr e) =
        let p : x * b * c < y * a * c = mul-lt-mul_of_pos_right h pos in
        let q : y * c * a ≤ z * b * a = mul-le-mul_right a k in
        let r : z * a * b ≤ x * c * b = mul-le-mul_right b (ltb-false (x * c) (z * a) e) in
        absurd (omega (arith, p, q, r))

behind_self : (t : Standing) → is_behind t t ≡ false
unfolding is_behind
behind_self t = le-ltb ((fraction_of t).done * (fraction_of t).all) ((fraction_of t).done * (fraction_of t).all) (omega arith)

-- a drive behind one that isn't after a third is behind the third
behind_trans : (a b c : Standing) → possible c ≡ true → is_behind a b ≡ true → is_behind c b ≡ false → is_behind a c ≡ true
unfolding is_behind
behind_trans a b c p h k =
    let x = fraction_of a in
    let y = fraction_of b in
    let z = fraction_of c in
    lt-ltb (x.done * z.all) (z.done * x.all)
    (less_trans x.done x.all y.done y.all z.done z.all (all-some c p) (ltb-true (x.done * y.all) (y.done * x.all) h) (ltb-false (z.done * y.all) (y.done * z.all) k))

-- then the third isn't behind it
behind_not : (a c : Standing) → is_behind a c ≡ true → is_behind c a ≡ false
unfolding is_behind
behind_not a c h =
    let x = fraction_of a in
    let z = fraction_of c in
    let l : x.done * z.all < z.done * x.all = ltb-true (x.done * z.all) (z.done * x.all) h in
    le-ltb (z.done * x.all) (x.done * z.all) (omega arith)

-- what holds after the first m drives
record After (ts : List Standing) (m : ℕ) (f : Fleet) : Type 0 where
  counted : f.drives ≡ m
  some : 1 ≤ f.last
  inside : f.last ≤ m
  is : f.least ≡ drive_at ts (f.last - 1)
  least : (j : ℕ) → j < m → is_behind (drive_at ts j) f.least ≡ false
  earliest : (j : ℕ) → j < f.last - 1 → is_behind f.least (drive_at ts j) ≡ true

first : (ts : List Standing) → After ts 1 (joined nobody (drive_at ts 0))
unfolding joined
first ts =
    let t = drive_at ts 0 in
    rw (sym (last-first nobody t refl))
    (record { counted = refl; some = omega arith; inside = omega arith; is = refl; least = only; earliest = λ j h. absurd (omega arith) })
  where
    only : (j : ℕ) → j < 1 → is_behind (drive_at ts j) (drive_at ts 0) ≡ false
    only zero h = behind_self (drive_at ts 0)
    only (suc j) h = absurd (omega arith)

next : (ts : List Standing) (m : ℕ) (f : Fleet) → AllPossible ts → 1 ≤ m → m < length ts → After ts m f → After ts (suc m) (joined f (drive_at ts m))
unfolding joined
next ts m f all pos h a = go (told (is_last f t))
  where
    t : Standing
    t = drive_at ts m

    by : is_behind (drive_at ts m) f.least ≡ is_last f (drive_at ts m)
    by = last-later f (drive_at ts m) (λ z. omega (arith, z, a.counted))

    go : (is_last f (drive_at ts m) ≡ true) ⊎ (is_last f (drive_at ts m) ≡ false) → After ts (suc m) (joined f (drive_at ts m))
    go (inl e) =
        let ahead : (j : ℕ) → j < m → is_behind (drive_at ts m) (drive_at ts j) ≡ true = λ j s. behind_trans (drive_at ts m) f.least (drive_at ts j) (all j (omega arith)) (by ∙ e) (a.least j s) in
        rw e
        (record {
          counted = omega (arith, a.counted);
          some = omega arith;
          inside = omega (arith, a.counted);
          is = let k : f.drives + 1 - 1 ≡ m = omega (arith, a.counted) in rw k;
          least = λ j s. lower ahead j (told (eqb j m)) s;
          earliest = λ j s. ahead j (omega (arith, a.counted));
        })
      where
        lower : ((j : ℕ) → j < m → is_behind (drive_at ts m) (drive_at ts j) ≡ true) → (j : ℕ) → (eqb j m ≡ true) ⊎ (eqb j m ≡ false) → j < suc m
            → is_behind (drive_at ts j) (drive_at ts m) ≡ false
        lower ahead j (inl q) s = rw (eqb-true j m q) (behind_self (drive_at ts m))
        lower ahead j (inr q) s = behind_not (drive_at ts m) (drive_at ts j) (ahead j (omega (arith, eqb-false j m q)))
    go (inr e) =
        rw e
        (record {
          counted = omega (arith, a.counted);
          some = a.some;
          inside = omega (arith, a.inside);
          is = a.is;
          least = λ j s. lower j (told (eqb j m)) s;
          earliest = a.earliest;
        })
      where
        lower : (j : ℕ) → (eqb j m ≡ true) ⊎ (eqb j m ≡ false) → j < suc m → is_behind (drive_at ts j) f.least ≡ false
        lower j (inl q) s = rw (eqb-true j m q) (by ∙ e)
        lower j (inr q) s = a.least j (omega (arith, eqb-false j m q))

-- one drive more of a list
one_more_lem : (ts : List Standing) (m : ℕ) → m < length ts → fleet_of (take (suc m) ts) ≡ joined (fleet_of (take m ts)) (drive_at ts m)
unfolding fold
one_more_lem ts m h = rw (take-suc ts m nothing h) (fold-append joined nobody (take m ts) (drive_at ts m ∷ []))

run : (ts : List Standing) (m : ℕ) → AllPossible ts → suc m ≤ length ts → After ts (suc m) (fleet_of (take (suc m) ts))
unfolding fold
run ts zero all h = rw (one_more_lem ts 0 h) (first ts)
run ts (suc m) all h = rw (one_more_lem ts (suc m) h) (next ts (suc m) (fleet_of (take (suc m) ts)) all (omega arith) h (run ts m all (omega arith)))

-- "`last=`, the line number of the drive furthest behind": line numbers count from 1
pub last-least : (ts : List Standing) → AllPossible ts → 1 ≤ length ts → (1 ≤ (fleet_of ts).last) × Furthest ts ((fleet_of ts).last - 1)
last-least ts all some =
    let m = length ts - 1 in
    let e : suc m ≡ length ts = omega arith in
    let a : After ts (length ts) (fleet_of ts) = rw (e, take-length ts) at (run ts m all (omega arith)) in (
      a.some,
      record {
        inside = omega (arith, a.some, a.inside);
        least = λ j h. rw a.is at (a.least j h);
        earliest = λ j h. rw a.is at (a.earliest j h);
      },
    )
