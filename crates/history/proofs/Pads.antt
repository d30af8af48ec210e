-- Pads and keys, read off what stays true through every history.
use mathlib.Core.Path.{◌≡◌, refl, sym, ap, ap₂, ◌∙◌, subst}
use mathlib.Core.Bool.{true}
use mathlib.Core.Logic.{◌⊎◌}
use mathlib.Core.List.{List, [], ◌∷◌, ◌++◌}
use mathlib.Core.Option.{some}
use Prim.Native.Nat.{ℕ, ◌+◌, ◌*◌, ◌%◌, ◌^◌, ◌<◌, ◌≤◌}
use native.Mathlib.Omega.{arith}
use lib.ListN.{length, get_elem?}
use Rattle.records.specs.Journal.{bit}
use Rattle.layout.proofs.Places.{record_room, parts_inside}
use Rattle.base.proofs.PickLaws.{clash}
use Rattle.base.proofs.FoldLaws.{same_true}
use Rattle.base.proofs.PartLaws.{length_part}
use Rattle.answers.specs.Numbers.{accepts}
use Rattle.messages.specs.Messages.{nugget_message}
use Rattle.messages.specs.OneMessage.{bytes_of, Wide}
use Rattle.messages.proofs.ReadBack.{nugget_told_lem, tag-told}
use Rattle.layout.specs.declared.Shape.{Shape}
use Rattle.layout.specs.Shape.{leaves, width_of}
use Rattle.layout.specs.Parts.{record_at, tag_at}
use Rattle.layout.specs.Shaped.{Shaped}
use Rattle.layout.proofs.Limits.{limits, lent_small, width_is}
use Rattle.records.specs.Listing.{Entry}
use Rattle.keys.specs.Keys.{nugget_key, tag_key, check_of, seal_of}
use Rattle.keys.specs.Pads.{Size, Stretch, Lies, pad_of, input_of}
use Rattle.keys.specs.Tags.{covered}
use Rattle.keys.proofs.CipherLaws.{lawful}
use Rattle.keys.proofs.Stretches.{stretch_is, no_stretch_twice as stretches-apart}
use Rattle.nodes.specs.Nodes.{node_in, record_part, tags_part, leaf_of, inner_of}
use Rattle.nodes.specs.Made.{made_of}
use Rattle.nodes.proofs.Bounds.{tags-inside}
use Rattle.nodes.proofs.MadeLaws.{made-leaf, made-inner, length-made}
use Rattle.drive.specs.declared.Drive.{Drive}
use Rattle.drive.specs.declared.State.{State}
use Rattle.drive.specs.declared.State.TheVariants.{Steady, Changing}
use Rattle.drive.specs.Drive.{shape_of, is_changing}
use Rattle.drive.specs.Head.{check_for}
use Rattle.opening.specs.Mount.{sealed, checked}
use Rattle.opening.proofs.FormatLaws.{format_lent}
use Rattle.opening.proofs.HeadBack.{Opened, opened}
use Rattle.opening.proofs.Reopens.{drive-back, reopens}
use Rattle.records.specs.Record.{record_of}
use Rattle.nuggets.specs.Nugget.{lock_of, stored_in}
use Rattle.ledger.specs.Listing.{SameEntry, NoneTwice}
use Rattle.ledger.specs.Ledger.{Kit}
use Rattle.ledger.specs.Onward.{Onward}
use Rattle.ledger.proofs.Theorems.{keycounts-below, entry_lies, entry-below}
use Rattle.ledger.proofs.OnwardLaws.{onward-same, onward_trans}
use Rattle.history.specs.World.{World, Call}
use Rattle.history.specs.Step.{step}
use Rattle.history.specs.History.{Start, begun, run, history}
use Rattle.history.specs.Pads.{lock_in, cipher_chosen, stretches, stretch_of, stretch_source, StretchSource, StretchMade, NoStretchTwice, tag_source, TagSource, TagKeyMade, NoTagKeyTwice, Spent, OnePadOneContents, lies_under, OneStretchOneContents, OneTagKeyOneMessage, Hashed, HashesStand}
use Rattle.history.proofs.Quiet.{untouched_lent, whole_quiet}
use Rattle.history.proofs.Heads.{untouched-node}
use Rattle.history.proofs.View.{kit_of, ledger_of}
use Rattle.history.proofs.Sound.{Sound}
use Rattle.history.proofs.Changed.{kept-changing}
use Rattle.history.proofs.Steps.{step_keeps, step_sound, sound}
use Rattle.history.proofs.Runs.{run-append}
use Rattle.history.proofs.Counters.{step_base}
use Rattle.history.proofs.Demands.{shape-kept, no_entry_twice}

-- a flake and a keycount that there can be
record Within (e : Entry) : Type 0 where
  pub nugget : e.nugget < 2 ^ 32
  pub flake : e.flake < 64
  pub count : e.keycount < 2 ^ 64

-- what is listed, and what a flake lies under, is within
listed : (w : World) → Sound w → (i : ℕ) (e : Entry) → get_elem? w.listing i ≡ some e → Within e
listed w x i e at =
    let ok = limits (shape_of w.drive) (untouched_lent w.drive w.vol x.untouched).limited in
    let lies = entry_lies (kit_of w.drive) (ledger_of w) x.inv i e at in
    let low = entry-below (kit_of w.drive) (ledger_of w) x.inv i e at in
    record {
      nugget = omega (arith, lies.0, ok.few);
      flake = omega (arith, lies.1, ok.narrow);
      count = omega (arith, low, x.handed.counter_lt);
    }

lain : (x : Start) (calls : List Call) (n f : ℕ) → Spent x.shape (history x calls).vol n f → Within (lies_under (history x calls) n f)
lain x calls n f y =
    let w = history x calls in
    let kept = (shape-kept x calls).0 in
    let ok = limits (shape_of w.drive) (untouched_lent w.drive w.vol (sound x calls).untouched).limited in
    let nugget : n < w.drive.n = omega (arith, y.nugget, ap (λ (s : Shape). s.n) kept) in
    record {
      nugget = omega (arith, nugget, ok.few);
      flake = omega (arith, y.flake, ap (λ (s : Shape). s.p) kept, ok.narrow);
      count = omega (arith, keycounts-below (kit_of w.drive) (ledger_of w) (sound x calls).inv n nugget, (sound x calls).handed.counter_lt);
    }

module _ (x : Start) where
  size : Size x.shape.f
  size =
      let (lent, top) = format_lent x.shape x.outside x.given (ap accepts x.accepted) in
      let ok = limits x.shape lent.limited in
      record { least = ok.wide; most = ok.short; whole = ok.whole }

  lies : (e : Entry) (j : ℕ) → Within e → j < stretches x → Lies (cipher_chosen x) x.shape.f (stretch_of e j)
  lies e j l h = record { count = l.count; few = l.flake; inside = h }

  nuggets : (e g : Entry) → Within e → Within g → nugget_message x.salt e.nugget ≡ nugget_message x.salt g.nugget → e.nugget ≡ g.nugget
  nuggets e g l m same = nugget_told_lem x.salt e.nugget g.nugget x.salted l.nugget m.nugget same

  -- a stretch's source tells its entry and place, and a tag key's its entry
  same_stretch : (e g : Entry) (a b : ℕ) → Within e → Within g → a < stretches x → b < stretches x
      → stretch_source x e a ≡ stretch_source x g b → SameEntry e g × (a ≡ b)
  same_stretch e g a b l m ha hb same =
      let inputs : input_of (cipher_chosen x) x.shape.f (stretch_of e a) ≡ input_of (cipher_chosen x) x.shape.f (stretch_of g b) = λ k. (same k).input in
      let one : stretch_of e a ≡ stretch_of g b =
      stretches-apart (cipher_chosen x) (lawful x.shape.cipher) x.shape.f size (stretch_of e a) (stretch_of g b) (lies e a l ha) (lies g b m hb) inputs in (
        record {
          nuggets = nuggets e g l m (ap (λ (s : StretchSource (cipher_chosen x)). s.message) same);
          keycounts = ap (λ (s : Stretch). s.keycount) one;
          flakes = ap (λ (s : Stretch). s.flake) one;
        },
        ap (λ (s : Stretch). s.place) one,
      )

  same-tag_key : (e g : Entry) → Within e → Within g → tag_source x e ≡ tag_source x g → SameEntry e g
  same-tag_key e g l m same =
      let told = tag-told x.shape.version e.flake g.flake e.keycount g.keycount (omega (arith, l.flake)) (omega (arith, m.flake)) l.count m.count
      (ap (λ (s : TagSource). s.message) same) in
      record { nuggets = nuggets e g l m (ap (λ (s : TagSource). s.nugget) same); keycounts = told.1; flakes = told.0 }

  -- nothing else of an entry is among the bytes that its tag is over
  same-covered : (e g : Entry) (stored other : List ℕ) → SameEntry e g → other ≡ stored
      → covered (lock_in x g) g.flake other ≡ covered (lock_in x e) e.flake stored
  unfolding covered
  same-covered e g stored other one same = rw (one.nuggets, one.keycounts, one.flakes, same) refl

pub stretch_made : StretchMade
unfolding nugget_key
stretch_made x calls i j e at h =
    stretch_is x.shape.f (size x) (lock_in x e) e.flake j h

pub no_stretch_twice : NoStretchTwice
unfolding NoneTwice
no_stretch_twice x calls i j a b e g ei ej ha hb same =
    let w = history x calls in
    let one = same_stretch x e g a b (listed w (sound x calls) i e ei) (listed w (sound x calls) j g ej) ha hb same in
    (no_entry_twice x calls i j e g ei ej one.0, one.1)

pub tag_key-made : TagKeyMade
unfolding tag_key nugget_key
tag_key-made x e = refl

pub no_tag_key_twice : NoTagKeyTwice
unfolding NoneTwice
no_tag_key_twice x calls i j e g ei ej same =
    let w = history x calls in
    no_entry_twice x calls i j e g ei ej (same-tag_key x e g (listed w (sound x calls) i e ei) (listed w (sound x calls) j g ej) same)

-- calls one after another go onward; shape and salt stay, and so what never changes
fixed : Shape × List ℕ → Kit
fixed b = record { n = b.0.n; p = b.0.p; size = b.0.f; pad = λ e. pad_of (lock_of b.0 b.1 e) e.flake b.0.f }

run-onward : (w : World) (calls : List Call) → Sound w → Onward (kit_of w.drive) (ledger_of w) (ledger_of (run w calls))
unfolding run fixed
run-onward w [] x = onward-same (kit_of w.drive) (ledger_of w)
run-onward w (c ∷ calls) x =
    let kit : kit_of (step w c).drive ≡ kit_of w.drive = ap fixed (step_base w c x) in
    onward_trans (kit_of w.drive) (ledger_of w) (ledger_of (step w c)) (ledger_of (run (step w c) calls)) (step_keeps w c x).onward
    (subst (λ (κ : Kit). Onward κ (ledger_of (step w c)) (ledger_of (run (step w c) calls))) kit (run-onward (step w c) calls (step_sound w c x)))

pub one-pad-one-contents : OnePadOneContents
one-pad-one-contents x calls later n f y same =
    let w = history x calls in
    let u = history x (calls ++ later) in
    let onward : Onward (kit_of w.drive) (ledger_of w) (ledger_of u) = rw (run-append (begun x) calls later) (run-onward w later (sound x calls)) in
    let at = (shape-kept x calls).0 in
    let to = (shape-kept x (calls ++ later)).0 in
    let keycounts = ap (λ (s : Shape). (record_of s u.vol n).keycount) to ∙ same ∙ sym (ap (λ (s : Shape). (record_of s w.vol n).keycount) at) in
    let on = subst (λ (s : Shape). bit (record_of s w.vol n).spent f ≡ true) (sym at) y.on in
    let stays =
    onward.stays n f (omega (arith, y.nugget, ap (λ (s : Shape). s.n) at)) (omega (arith, y.flake, ap (λ (s : Shape). s.p) at)) on keycounts in (
      record { nugget = y.nugget; flake = y.flake; on = subst (λ (s : Shape). bit (record_of s u.vol n).spent f ≡ true) to stays.0 },
      sym (ap (λ (s : Shape). stored_in s u.vol n f) to) ∙ stays.1 ∙ ap (λ (s : Shape). stored_in s w.vol n f) at,
    )

-- spent flakes under entries alike are one flake, as it was
one-flake : (x : Start) (calls later : List Call) (n f m g : ℕ) → Spent x.shape (history x calls).vol n f
    → SameEntry (lies_under (history x calls) n f) (lies_under (history x (calls ++ later)) m g)
    → stored_in x.shape (history x (calls ++ later)).vol m g ≡ stored_in x.shape (history x calls).vol n f
one-flake x calls later n f m g y alike =
    let u = (history x (calls ++ later)).vol in
    ap₂ (λ (i j : ℕ). stored_in x.shape u i j) (sym alike.nuggets) (sym alike.flakes)
    ∙ (one-pad-one-contents x calls later n f y (ap (λ (i : ℕ). (record_of x.shape u i).keycount) alike.nuggets
    ∙ sym (ap (λ (s : Shape). (record_of s u m).keycount) (shape-kept x (calls ++ later)).0) ∙ sym alike.keycounts
    ∙ ap (λ (s : Shape). (record_of s (history x calls).vol n).keycount) (shape-kept x calls).0)).1

pub one_stretch_one-contents : OneStretchOneContents
one_stretch_one-contents x calls later n f m g a b y z ha hb same =
    let one = same_stretch x _ _ a b (lain x calls n f y) (lain x (calls ++ later) m g z) ha hb same in
    (one.0.nuggets, one.0.flakes, one.1, one-flake x calls later n f m g y one.0)

pub one-tag_key-one-message : OneTagKeyOneMessage
one-tag_key-one-message x calls later n f m g y z same =
    let one = same-tag_key x _ _ (lain x calls n f y) (lain x (calls ++ later) m g z) same in
    let stored = one-flake x calls later n f m g y one in
    (one.nuggets, one.flakes, stored, same-covered x _ _ _ _ one stored)

check_for_lem : (s : State) (old salt : List ℕ) (epoch : ℕ) → is_changing s ≡ true → check_for s old salt epoch ≡ check_of old salt epoch
check_for_lem Steady old salt epoch e = absurd (clash e refl)
check_for_lem (Changing left) old salt epoch e = refl

-- "the 18 record bytes", or version 2's 26, and the tags of 16 bytes each
record_long : {s : Shape} {v : List ℕ} (n : ℕ) → Shaped s v → n < s.n → (length (record_part s v n) ≡ 18) ⊎ (length (record_part s v n) ≡ 26)
record_long {s} {v} n l h = rw (length_part (record_at s n) (width_of s) v (record_room n l h)) (width_is s)

tags-long : {s : Shape} {v : List ℕ} (n : ℕ) → Shaped s v → n < s.n → length (tags_part s v n) % 16 ≡ 0
tags-long {s} {v} n l h = rw (length_part (tag_at s n 0) (16 * s.p) v (omega (arith, l.size, tags-inside s n h, parts_inside s))) (omega arith)

-- head and tree of a sound world
module _ (w : World) (x : Sound w) where
  abbrev d : Drive
  d = w.drive

  found : Opened w.vol d d.counter
  found =
      subst (λ (e : Drive). Opened w.vol e d.counter) (drive-back d w.vol w.old x.handed x.untouched.opens)
      (opened w.vol d.present w.old d.counter (reopens d w.vol w.old x.handed x.untouched.opens ∙ whole_quiet d w.vol x.untouched))

  lent : Shaped (shape_of d) w.vol
  lent = untouched_lent d w.vol x.untouched

  good : (i : ℕ) → 1 ≤ i → i < 2 * leaves d.n → node_in (shape_of d) w.vol i ≡ made_of (shape_of d) w.vol i
  good i low high = x.untouched.good i low high

  hashed : Hashed (shape_of w.drive) w w.vol
  unfolding bytes_of Wide sealed checked seal_of check_of leaf_of inner_of
  hashed =
      let big = lent_small lent in
      let ok = limits (shape_of d) lent.limited in
      record {
        seal = record {
          hash = rw (← x.present, untouched-node {d = d} {v = w.vol} x.untouched) (same_true _ _ found.seal);
          wide = length_part 0 72 w.vol (omega (arith, lent.size));
        };
        check = λ changing. record {
          hash =
              same_true _ _ found.check
              ∙ check_for_lem d.state d.old d.salt d.epoch changing
              ∙ ap (λ (old : List ℕ). check_of old d.salt d.epoch) (sym x.handed.kept ∙ kept-changing d.state w.old changing);
          wide = (x.handed.salt_long_lem, x.handed.epoch_lt);
        };
        leaf = λ n h. record {
          hash = good (leaves d.n + n) (omega (arith, big.some_leaves)) (omega (arith, big.enough_leaves, h)) ∙ made-leaf (shape_of d) w.vol n h;
          wide = (omega (arith, h, ok.few), record_long n lent h, tags-long n lent h);
        };
        inner = λ i low high. record {
          hash = good i low (omega (arith, high)) ∙ made-inner (shape_of d) w.vol i high;
          wide = ap length (good (2 * i) (omega (arith, low)) (omega (arith, high))) ∙ length-made (shape_of d) w.vol (2 * i);
        };
      }

pub hashes_stand : HashesStand
hashes_stand x calls =
    let w = history x calls in
    subst (λ (s : Shape). Hashed s w w.vol) (shape-kept x calls).0 (hashed w (sound x calls))
