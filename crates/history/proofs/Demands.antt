-- The demands, read off what stays true through every history.
use mathlib.Core.Path.{◌≡◌, refl, ap, ◌∙◌}
use mathlib.Core.Bool.{true}
use mathlib.Core.List.{List, ◌∷◌, ◌++◌}
use Prim.Native.Nat.{ℕ, zero, suc, ◌+◌, ◌<◌}
use native.Mathlib.Omega.{arith}
use lib.ListN.{length, get_or}
use Rattle.base.specs.Lists.{part}
use Rattle.base.proofs.PickLaws.{yes}
use Rattle.base.proofs.FoldLaws.{same_true}
use Rattle.base.proofs.TabLaws.{get_or-tab, tab_ext}
use Rattle.answers.specs.Numbers.{accepts}
use Rattle.layout.specs.declared.Shape.{Shape}
use Rattle.layout.specs.Parts.{tag_at}
use Rattle.layout.specs.Spots.{spot_at, offset_at, capacity}
use Rattle.layout.proofs.Limits.{limits}
use Rattle.layout.proofs.Places.{offset_spot, spot_inside}
use Rattle.records.specs.Journal.{bit, flake_count}
use Rattle.poly1305.specs.Poly1305.{poly1305}
use Rattle.keys.specs.Keys.{tag_key}
use Rattle.keys.specs.Tags.{covered, tag_of}
use Rattle.drive.specs.Drive.{shape_of}
use Rattle.nuggets.specs.Nugget.{secret_for, lock_of, stored_in, byte_of}
use Rattle.nuggets.specs.Tests.{good_flake}
use Rattle.reading.specs.Read.{read_buffer}
use Rattle.reading.proofs.AnswerLaws.{read_lent}
use Rattle.reports.specs.Counts.{flakes_in}
use Rattle.reports.proofs.ReportLaws.{report-full}
use Rattle.opening.specs.Format.{fresh_drive, format_done}
use Rattle.ledger.specs.Totals.{sum}
use Rattle.ledger.specs.Ledger.{secret_at, entry_at}
use Rattle.ledger.proofs.Theorems.{no_entry_twice as none-twice-in, keycounts-below as below_in}
use Rattle.history.specs.World.{World, write, discard}
use Rattle.history.specs.Step.{step}
use Rattle.history.specs.History.{Start, begun, run, history}
use Rattle.history.specs.Demands.{ShapeKept, KeycountsBelow, ReadsBack, WrittenLast, NeverWritten, DiscardedReadsZero, NoEntryTwice, EntriesListed, plain_in, UnderLastPad, StaleNeverMounts, MountsBack, ShareFull}
use Rattle.history.proofs.Quiet.{untouched_lent, report-accepts}
use Rattle.history.proofs.View.{kit_of, ledger_of, secret_seen, reads_plain}
use Rattle.history.proofs.Sound.{Sound}
use Rattle.history.proofs.Steps.{start_sound, sound, mount-back}
use Rattle.history.proofs.Runs.{run-append, run-kept, run-zero, step_frees, step-writes}
use Rattle.history.proofs.Counters.{base_of, run_base, run_raised, head-counter}
use Rattle.records.specs.Record.{record_of}

pub begun_base : (x : Start) → base_of (begun x).drive ≡ (x.shape, x.salt)
unfolding begun format_done fresh_drive
begun_base x = rw x.accepted refl

pub shape-kept : ShapeKept
shape-kept x calls =
    let e = run_base (begun x) calls (start_sound x) ∙ begun_base x in
    (ap (λ (b : Shape × List ℕ). b.0) e, ap (λ (b : Shape × List ℕ). b.1) e)

pub keycounts-below : KeycountsBelow
keycounts-below x calls n h = let w = history x calls in below_in (kit_of w.drive) (ledger_of w) (sound x calls).inv n h

-- the byte at an offset is the one last written there
byte-plain : (w : World) → Sound w → (a : ℕ) → a < capacity (shape_of w.drive) → byte_of w.drive w.vol a ≡ w.contents a
unfolding byte_of plain_in
byte-plain w x a h =
    let s = shape_of w.drive in
    let ok = limits s (untouched_lent w.drive w.vol x.untouched).limited in
    let at = spot_at s a in
    let in_it = spot_inside s a (omega (arith, ok.flakes)) (omega (arith, ok.wide)) h in
    ap (λ (l : List ℕ). get_or l at.byte 0) (reads_plain w.drive w.vol w.listing w.retired w.contents x.inv at.nugget at.flake in_it.nugget_is in_it.flake_is)
    ∙ get_or-tab s.f (λ b. w.contents (offset_at s at.nugget at.flake b)) at.byte 0 in_it.byte_is
    ∙ ap (λ (k : ℕ). w.contents k) (offset_spot s a)

pub reads_back : ReadsBack
unfolding read_buffer
reads_back x calls o buffer e =
    let w = history x calls in
    let (lent, room) = read_lent w.drive w.vol o (length buffer) (ap accepts e) in
    yes _ (ap accepts e)
    (tab_ext (length buffer) (λ i. byte_of w.drive w.vol (o + i)) (λ i. w.contents (o + i)) (λ i h. byte-plain w (sound x calls) (o + i) (omega (arith, h, room))))

pub written_last : WrittenLast
unfolding run
written_last x calls later o bytes i h e off =
    let w = history x calls in
    ap (λ (u : World). u.contents (o + i)) (run-append (begun x) calls (write o bytes ∷ later))
    ∙ run-kept (o + i) (step w (write o bytes)) later off
    ∙ step-writes w o bytes i h e

pub never_written : NeverWritten
unfolding begun
never_written x calls a off = run-zero a (begun x) calls off refl

pub discarded_reads_zero : DiscardedReadsZero
unfolding run
discarded_reads_zero x calls later n first count a e inside off =
    let w = history x calls in
    ap (λ (u : World). u.contents a) (run-append (begun x) calls (discard n first count ∷ later))
    ∙ run-zero a (step w (discard n first count)) later off (step_frees w n first count a e inside)

pub no_entry_twice : NoEntryTwice
no_entry_twice x calls = let w = history x calls in none-twice-in (kit_of w.drive) (ledger_of w) (sound x calls).inv

-- the report's count of flakes, nugget by nugget
pub flakes-sum : (s : Shape) (p : ℕ) (v : List ℕ) (n : ℕ) → sum n (λ i. flake_count p (record_of s v i).held) ≡ flakes_in s p v n
unfolding flakes_in sum
flakes-sum s p v zero = refl
flakes-sum s p v (suc n) = rw (flakes-sum s p v n)

pub entries-listed : EntriesListed
entries-listed x calls = (sound x calls).inv.tally

-- a present flake's tag, under the key of its nugget
flake-tag : (w : World) → Sound w → (n f : ℕ) → n < w.drive.n → f < w.drive.p → bit (record_of (shape_of w.drive) w.vol n).held f ≡ true
    → part (tag_at (shape_of w.drive) n f) 16 w.vol
    ≡ (let lock = lock_of (shape_of w.drive) w.drive.salt (entry_at (ledger_of w) n f) in poly1305 (tag_key lock f) (covered lock f (stored_in (shape_of w.drive) w.vol n f)))
unfolding good_flake tag_of secret_at secret_for
flake-tag w x n f a b on = same_true _ _ (x.untouched.tags n f a b on)

pub under-last-pad : UnderLastPad
under-last-pad x calls n f a b on =
    let w = history x calls in
    let inv = (sound x calls).inv in
    record {
      pad = entry_at (ledger_of w) n f;
      last = inv.named n f a on;
      laid = inv.laid n f a on;
      secret = secret_seen w.drive w.vol w.listing w.retired w.contents (record_of (shape_of w.drive) w.vol n).epoch;
      keycount = refl;
      tagged = flake-tag w (sound x calls) n f a b on;
    }

pub stale_never_mounts : StaleNeverMounts
stale_never_mounts x calls later flake_count old changed e =
    let w = history x calls in
    let q : (history x (calls ++ later)).outside ≡ (run w later).outside = ap (λ (u : World). u.outside) (run-append (begun x) calls later) in
    omega (arith, q, head-counter w (sound x calls) flake_count old (history x (calls ++ later)).outside e, run_raised w later (sound x calls) changed)

pub mounts-back : MountsBack
mounts-back x calls any = mount-back (history x calls) (sound x calls) any

pub share-full : ShareFull
share-full x calls =
    let w = history x calls in
    report-full w.drive w.vol (ap accepts (report-accepts w.drive w.vol (sound x calls).untouched))
