-- One nugget in a way that fits: either flakes are added under its keycount, perhaps none, or all are enciphered under the next.
use mathlib.Core.Path.{◌≡◌, refl, sym, ◌∙◌}
use mathlib.Core.Bool.{Bool, true, false, not}
use mathlib.Core.Logic.{◌⊎◌, inl, inr}
use Prim.Native.Nat.{ℕ, ◌+◌, ◌^◌, ◌<◌, ◌≤◌}
use native.Mathlib.Omega.{arith}
use lib.Bits.{or_lt}
use lib.Pow.{pow_pos}
use lib.Dec.{eqb}
use borrow.Author.Tests.{eqb-true, eq-eqb, lt-ltb, le-ltb}
use Rattle.base.specs.Pick.{pick, both, either}
use Rattle.base.proofs.PickLaws.{told, clash, either_off, either-told, both_no, both_left, both_right}
use Rattle.records.specs.declared.Record.{Record}
use Rattle.records.specs.declared.Way.{Way}
use Rattle.records.specs.declared.Way.TheVariants.{Idle, Add, Rekey, Clear}
use Rattle.records.specs.Journal.{bit, union, share_none, flake_count}
use Rattle.records.specs.Rule.{way_of, sweep_way, touched_by, cleared_by, enciphered, keycount_after, spent_after, held_after, epoch_after, turned}
use Rattle.records.proofs.BitLaws.{bit-union, bit-without, bit-empty, share_none_bits}
use Rattle.records.proofs.CountLaws.{many-either}
use Rattle.ledger.specs.Listing.{one}
use Rattle.ledger.specs.Totals.{retired_of}
use Rattle.ledger.specs.Step.{WayFits}

pub record Adds (head : ℕ) (way : Way) (r : Record) : Type 0 where
  pub keycount_kept : keycount_after way r ≡ r.keycount
  pub epoch_kept : epoch_after way head r ≡ r.epoch
  pub apart : (f : ℕ) → both (bit r.spent f) (bit (enciphered way r) f) ≡ false
  pub joined : (f : ℕ) → bit (spent_after way r) f ≡ either (bit r.spent f) (bit (enciphered way r) f)
  pub stays : (f : ℕ) → bit (held_after way r) f ≡ true → bit (enciphered way r) f ≡ false → bit r.held f ≡ true
  pub moved : (f : ℕ) → bit (enciphered way r) f ≡ true → r.epoch ≡ head

pub record Rekeyed (head : ℕ) (way : Way) (r : Record) : Type 0 where
  pub keycount_up : keycount_after way r ≡ r.keycount + 1
  pub epoch_set : epoch_after way head r ≡ head
  pub whole : spent_after way r ≡ enciphered way r
  pub rest : held_after way r ≡ enciphered way r

-- what is in a set or in the empty one is in the set
or_none : (a : Bool) → a ≡ either a false
or_none true = refl
or_none false = refl

-- what is in J with T and not in T is in J
in_first : (j t f : ℕ) → bit (union j t) f ≡ true → bit t f ≡ false → bit j f ≡ true
in_first j t f on off = go (either-told (bit j f) (bit t f) (sym (bit-union j t f) ∙ on))
  where
    go : (bit j f ≡ true) ⊎ (bit t f ≡ true) → bit j f ≡ true
    go (inl e) = e
    go (inr e) = absurd (clash e off)

pub turn-told : (p head : ℕ) (r : Record) (way : Way) → WayFits p head r way → Adds head way r ⊎ Rekeyed head way r
unfolding WayFits keycount_after epoch_after spent_after held_after enciphered
turn-told p head r Idle h = inl (record {
  keycount_kept = refl;
  epoch_kept = refl;
  apart = λ f. rw (bit-empty f) (both_no (bit r.spent f));
  joined = λ f. rw (bit-empty f) (or_none (bit r.spent f));
  stays = λ f on off. on;
  moved = λ f e. absurd (clash e (bit-empty f));
})
turn-told p head r (Clear m) h = inl (record {
  keycount_kept = refl;
  epoch_kept = refl;
  apart = λ f. rw (bit-empty f) (both_no (bit r.spent f));
  joined = λ f. rw (bit-empty f) (or_none (bit r.spent f));
  stays = λ f on off. both_left (bit r.held f) (not (bit m f)) (sym (bit-without r.held m f) ∙ on);
  moved = λ f e. absurd (clash e (bit-empty f));
})
turn-told p head r (Add t) h = inl (record {
  keycount_kept = refl;
  epoch_kept = refl;
  apart = share_none_bits r.spent t h.0;
  joined = bit-union r.spent t;
  stays = in_first r.held t;
  moved = λ f e. h.1;
})
turn-told p head r (Rekey t) h = inr (record { keycount_up = refl; epoch_set = refl; whole = refl; rest = refl })

-- Of a flake that is enciphered the nugget has the head's epoch afterwards; one that is held afterwards and isn't enciphered was
-- held before, in a nugget that isn't rekeyed.
module _ (head : ℕ) (way : Way) (r : Record) (f : ℕ) where
  pub new_epoch : Adds head way r ⊎ Rekeyed head way r → bit (enciphered way r) f ≡ true → epoch_after way head r ≡ head
  new_epoch (inl a) on = a.epoch_kept ∙ a.moved f on
  new_epoch (inr a) on = a.epoch_set

  pub old-stays : Adds head way r ⊎ Rekeyed head way r → bit (enciphered way r) f ≡ false → bit (held_after way r) f ≡ true
      → (bit r.held f ≡ true) × Adds head way r
  old-stays (inl a) off on = (a.stays f on off, a)
  old-stays (inr a) off on = absurd (clash (rw a.rest at on) off)

-- what a way touches and enciphers are flakes below p
pub touched-lt : (p head : ℕ) (r : Record) (way : Way) → WayFits p head r way → touched_by way < 2 ^ p
unfolding WayFits
touched-lt p head r Idle h = pow_pos p
touched-lt p head r (Add t) h = h.2
touched-lt p head r (Rekey t) h = h
touched-lt p head r (Clear m) h = pow_pos p

pub enciphered-lt : (p head : ℕ) (r : Record) (way : Way) → WayFits p head r way → r.held < 2 ^ p → enciphered way r < 2 ^ p
unfolding WayFits enciphered
enciphered-lt p head r Idle h j = pow_pos p
enciphered-lt p head r (Add t) h j = h.2
enciphered-lt p head r (Rekey t) h j = or_lt p r.held t j h
enciphered-lt p head r (Clear m) h j = pow_pos p

-- a flake that isn't enciphered isn't touched
pub untouched-by : (way : Way) (r : Record) (f : ℕ) → bit (enciphered way r) f ≡ false → bit (touched_by way) f ≡ false
unfolding enciphered
untouched-by Idle r f e = bit-empty f
untouched-by (Add t) r f e = e
untouched-by (Rekey t) r f e = (either_off (bit r.held f) (bit t f) (sym (bit-union r.held t f) ∙ e)).1
untouched-by (Clear m) r f e = bit-empty f

-- a flake held afterwards isn't cleared
pub held_uncleared : (way : Way) (r : Record) (f : ℕ) → bit (held_after way r) f ≡ true → bit (cleared_by way) f ≡ false
unfolding held_after
held_uncleared Idle r f e = bit-empty f
held_uncleared (Add t) r f e = bit-empty f
held_uncleared (Rekey t) r f e = bit-empty f
held_uncleared (Clear m) r f e = off (bit m f) (both_right (bit r.held f) (not (bit m f)) (sym (bit-without r.held m f) ∙ e))
  where
    off : (b : Bool) → not b ≡ true → b ≡ false
    off true h = absurd (clash h refl)
    off false h = refl

-- one absent afterwards is not touched
pub absent_untouched : (way : Way) (r : Record) (f : ℕ) → bit (held_after way r) f ≡ false → bit (touched_by way) f ≡ false
unfolding held_after
absent_untouched Idle r f e = bit-empty f
absent_untouched (Add t) r f e = (either_off (bit r.held f) (bit t f) (sym (bit-union r.held t f) ∙ e)).1
absent_untouched (Rekey t) r f e = (either_off (bit r.held f) (bit t f) (sym (bit-union r.held t f) ∙ e)).1
absent_untouched (Clear m) r f e = bit-empty f

-- and one that isn't cleared was absent
pub absent_before : (way : Way) (r : Record) (f : ℕ) → bit (held_after way r) f ≡ false → bit (cleared_by way) f ≡ false → bit r.held f ≡ false
unfolding held_after
absent_before Idle r f e c = e
absent_before (Add t) r f e c = (either_off (bit r.held f) (bit t f) (sym (bit-union r.held t f) ∙ e)).0
absent_before (Rekey t) r f e c = (either_off (bit r.held f) (bit t f) (sym (bit-union r.held t f) ∙ e)).0
absent_before (Clear m) r f e c = go (bit r.held f) (bit m f) c (sym (bit-without r.held m f) ∙ e)
  where
    go : (a b : Bool) → b ≡ false → both a (not b) ≡ false → a ≡ false
    go true true q h = absurd (clash refl q)
    go true false q h = h
    go false b q h = refl

apart_le : (a b : Bool) → both a b ≡ false → one a + one b ≤ 1
apart_le true true e = absurd (clash refl e)
apart_le true false e = omega arith
apart_le false true e = omega arith
apart_le false false e = omega arith

apart_one : (a b : Bool) → both a b ≡ false → one a + one b ≡ one (either a b)
apart_one true true e = absurd (clash refl e)
apart_one true false e = refl
apart_one false true e = refl
apart_one false false e = refl

one-le : (b : Bool) → one b ≤ 1
one-le true = omega arith
one-le false = omega arith

-- How often a nugget's flake is listed, before (c) and after a way: at most once, not at all above the keycount, and at it
-- exactly if it is spent.
module _ (head : ℕ) (way : Way) (r : Record) (f : ℕ) where
  pub one-once : Adds head way r ⊎ Rekeyed head way r → (k c : ℕ) → c ≤ 1 → (r.keycount < k → c ≡ 0)
      → (r.keycount ≡ k → c ≡ one (bit r.spent f)) → c + one (both (eqb (keycount_after way r) k) (bit (enciphered way r) f)) ≤ 1
  one-once turn k c once fresh now = go turn (told (eqb (keycount_after way r) k))
    where
      go : Adds head way r ⊎ Rekeyed head way r → (eqb (keycount_after way r) k ≡ true) ⊎ (eqb (keycount_after way r) k ≡ false)
          → c + one (both (eqb (keycount_after way r) k) (bit (enciphered way r) f)) ≤ 1
      go (inl a) (inl e) =
          let q : r.keycount ≡ k = sym a.keycount_kept ∙ eqb-true (keycount_after way r) k e in
          rw (e, now q) (apart_le (bit r.spent f) (bit (enciphered way r) f) (a.apart f))
      go (inr a) (inl e) =
          let q : keycount_after way r ≡ k = eqb-true (keycount_after way r) k e in
          rw (e, fresh (omega (arith, a.keycount_up))) (omega (arith, one-le (bit (enciphered way r) f)))
      go (inl a) (inr e) = rw e (omega arith)
      go (inr a) (inr e) = rw e (omega arith)

  pub one-now : Adds head way r ⊎ Rekeyed head way r → (c : ℕ) → (r.keycount < keycount_after way r → c ≡ 0)
      → (r.keycount ≡ keycount_after way r → c ≡ one (bit r.spent f))
      → c + one (both (eqb (keycount_after way r) (keycount_after way r)) (bit (enciphered way r) f)) ≡ one (bit (spent_after way r) f)
  one-now (inl a) c fresh now =
      rw (eq-eqb (keycount_after way r) (keycount_after way r) refl, now (sym a.keycount_kept), a.joined f)
      (apart_one (bit r.spent f) (bit (enciphered way r) f) (a.apart f))
  one-now (inr a) c fresh now =
      rw (eq-eqb (keycount_after way r) (keycount_after way r) refl, fresh (omega (arith, a.keycount_up)), a.whole) (omega arith)

-- flakes spent before and entries listed: flakes spent afterwards and flakes retired
pub one-tally : (p head : ℕ) (way : Way) (r : Record) → Adds head way r ⊎ Rekeyed head way r
    → flake_count p r.spent + flake_count p (enciphered way r) ≡ flake_count p (spent_after way r) + retired_of p r (turned way head r)
one-tally p head way r (inl a) =
    rw (le-ltb r.keycount (keycount_after way r) (omega (arith, a.keycount_kept)))
    (omega (arith, many-either p (bit r.spent) (bit (enciphered way r)) (bit (spent_after way r)) a.joined a.apart))
one-tally p head way r (inr a) = rw (lt-ltb r.keycount (keycount_after way r) (omega (arith, a.keycount_up)), a.whole) (omega arith)

-- a sweep's ways fit: the swept nugget's, and those of the nuggets left alone
pub sweep-fits : (p head : ℕ) (r : Record) (swept : Bool) → WayFits p head r (pick swept sweep_way Idle)
unfolding WayFits
sweep-fits p head r true = pow_pos p
sweep-fits p head r false = tt

-- and a discard's
pub clear-fits : (p head : ℕ) (r : Record) (m : ℕ) (own : Bool) → WayFits p head r (pick own (Clear m) Idle)
unfolding WayFits
clear-fits p head r m true = tt
clear-fits p head r m false = tt

-- a write's way fits
pub write-fits : (p head : ℕ) (r : Record) (t : ℕ) → t < 2 ^ p → WayFits p head r (way_of r t head)
unfolding way_of WayFits
write-fits p head r t h = go (eqb t 0) (share_none r.spent t) (eqb r.epoch head) refl refl
  where
    go : (a b c : Bool) → share_none r.spent t ≡ b → eqb r.epoch head ≡ c → WayFits p head r (pick a Idle (pick (both b c) (Add t) (Rekey t)))
    go true b c d e = tt
    go false true true d e = (d, eqb-true r.epoch head e, h)
    go false true false d e = h
    go false false c d e = h
