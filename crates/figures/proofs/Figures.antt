-- The one claim: document 01's figures 1 to 11, and the share of document 02's Item 1.
use mathlib.Core.Path.{◌≡◌, refl, ap}
use mathlib.Core.List.{List, [], ◌∷◌}
use Prim.Native.Nat.{ℕ, ◌+◌}
use native.Mathlib.Omega.{arith}
use lib.ListN.{length}
use Rattle.layout.specs.Shape.{width_of, height_of, height_from}
use Rattle.layout.specs.declared.Shape.{Shape}
use Rattle.line.specs.Decimal.{digits, width_in, decimal}
use Rattle.line.specs.Lines.{share_text}
use Rattle.records.specs.declared.Record.{Record}
use Rattle.records.specs.Journal.{bit, share_none, flakes_with, many, flake_count}
use Rattle.records.specs.Rule.{way_of, enciphered, keycount_after, spent_after, held_after}
use Rattle.drive.specs.Drive.{shape_of}
use Rattle.drive.specs.Drive.{zeros}
use Rattle.nuggets.specs.Touched.{meets, touched_of}
use Rattle.history.proofs.Starts.{one-nugget}
use Rattle.history.specs.World.{World, write}
use Rattle.history.specs.Step.{step}
use Rattle.history.specs.History.{Start, begun, run}
use Rattle.reports.specs.Counts.{exact_of, share_of}
use Rattle.figures.specs.Figures.{FreshSmall, counts_of, Figures}
use Rattle.figures.proofs.Writes.{Holds, starts_so, holds_on, one-present}

-- what the table shows of a drive of that shape
shows : {w : World} {k j listed retired counter : ℕ} → Holds w k j listed retired counter → counts_of w ≡ listed ∷ flake_count 2 j ∷ retired ∷ []
shows {w} h =
    rw (h.entries, h.gone, one-present w.drive.n w.drive.p (ap (λ (s : Shape). s.n) h.shaped) (ap (λ (s : Shape). s.p) h.shaped) (shape_of w.drive) w.vol h.nugget)
    refl

-- "write 64 bytes at 0": none present, so flake 0 under keycount 0; "64 at 64": flake 1 under keycount 0; "1 at 0": both flakes under keycount 1
after-ten : (x : Start) (a b c : List ℕ) → FreshSmall 3 x → length a ≡ 64 → length b ≡ 64 → length c ≡ 1
    → Holds (step (step (step (begun x) (write 0 a)) (write 64 b)) (write 0 c)) 1 3 4 2 (x.outside + 1 + 1 + 1 + 1)
unfolding touched_of flakes_with meets way_of share_none enciphered keycount_after spent_after held_after many bit
after-ten x a b c fresh la lb lc =
    let one = holds_on (begun x) (starts_so x fresh.shaped) 0 64 a la (omega arith) (omega arith) (omega (arith, fresh.room)) in
    let two = holds_on (step (begun x) (write 0 a)) one 64 64 b lb (omega arith) (omega arith) (omega (arith, fresh.room)) in
    holds_on (step (step (begun x) (write 0 a)) (write 64 b)) two 0 1 c lc (omega arith) (omega arith) (omega (arith, fresh.room))

-- both flakes under keycount 0
after-eleven : (x : Start) (a : List ℕ) → FreshSmall 1 x → length a ≡ 10 → Holds (step (begun x) (write 60 a)) 0 3 2 0 (x.outside + 1 + 1)
unfolding touched_of flakes_with meets way_of share_none enciphered keycount_after spent_after held_after many bit
after-eleven x a fresh la = holds_on (begun x) (starts_so x fresh.shaped) 60 10 a la (omega arith) (omega arith) (omega (arith, fresh.room))

-- there are such drives
pub some : (x : Start) × FreshSmall 3 x
unfolding one-nugget
some = (one-nugget (zeros 32), record { shaped = refl; room = omega arith })

pub figures : Figures
unfolding width_of height_of height_from exact_of share_of share_text decimal digits width_in run many bit
figures =
    record {
      one = refl;
      two = refl;
      three = refl;
      four = refl;
      five = λ n. refl;
      six = refl;
      seven = refl;
      eight = refl;
      nine = refl;
      ten = λ x a b c fresh la lb lc.
          let h = after-ten x a b c fresh la lb lc in
          (ap (λ (r : Record). r.keycount) h.nugget, ap (λ (r : Record). r.held) h.nugget, shows h);
      eleven = λ x a fresh la.
          let h = after-eleven x a fresh la in
          (ap (λ (r : Record). r.keycount) h.nugget, ap (λ (r : Record). r.held) h.nugget);
      twelve = refl;
    }
