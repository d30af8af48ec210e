-- The steps of the code, each with what was answered before it.
use mathlib.Core.Path.{◌≡◌, refl, sym, ap, ◌∙◌}
use mathlib.Core.Bool.{Bool, true, false}
use mathlib.Core.Logic.{◌⊎◌, inl, inr}
use mathlib.Core.List.{List, [], ◌∷◌, ◌++◌}
use Prim.Native.Nat.{ℕ, ◌+◌, ◌-◌, ◌*◌, ◌<◌, ◌≤◌}
use native.Mathlib.Omega.{arith}
use lib.ListN.{length, length-append}
use lib.Seq.{sets}
use borrow.Author.Tests.{lt-ltb, le-ltb}
use Rattle.base.specs.Lists.{same}
use Rattle.base.proofs.PickLaws.{yes, no, told, both-on, both_off}
use Rattle.base.proofs.PartLaws.{sets-append}
use Rattle.words.specs.Le.{le}
use Rattle.words.proofs.LeLaws.{length-le}
use Rattle.layout.specs.Shape.{leaves}
use Rattle.layout.specs.Shaped.{Shaped}
use Rattle.layout.specs.declared.Shape.{Shape}
use Rattle.answers.specs.Answer.{Answer}
use Rattle.answers.specs.Answer as A
use Rattle.answers.specs.declared.Place.TheVariants as P
use Rattle.answers.specs.Numbers.{accepts}
use Rattle.answers.proofs.StageLaws.{goes_on, stops}
use Rattle.records.specs.declared.Gauge.{Gauge}
use Rattle.nodes.specs.Nodes.{node_in, record_part, tags_part}
use Rattle.tree.specs.Path.{path_of}
use Rattle.drive.specs.declared.Drive.{Drive}
use Rattle.drive.specs.Drive.{shape_of, gauge_of}
use Rattle.drive.specs.Opening.{measure_of}
use Rattle.twins.specs.declared.Twins.{Twins}
use Rattle.twins.specs.Collision.{message_of}
use Rattle.twins.specs.Twins.{path_to, sizes_of, twins_answer, alike_in, meeting, found_in, twin_in, twins_of}
use Rattle.twins.proofs.MessageLaws.{message_bottom, message-inner, message-long, long-some}
use Rattle.twins.proofs.MeetLaws.{meeting-within}

-- an answer that was tested
pub tested : {a b : Answer} {y : Bool} → a ≡ b → accepts a ≡ y → accepts b ≡ y
tested ea t = ap accepts (sym ea) ∙ t

module _ (d : Drive) (v : List ℕ) (n : ℕ) {s : Shape} {g : Gauge} {a : Answer} (es : s ≡ shape_of d) (eg : g ≡ gauge_of d) (ea : a ≡ path_of s g v n) where
  path_is : a ≡ path_of (shape_of d) (gauge_of d) v n
  path_is = ea ∙ rw (es, eg) refl

  pub path_stops : accepts a ≡ false → a ≡ path_to d v n
  unfolding path_to
  path_stops off = path_is ∙ sym (stops _ _ (tested path_is off))

  top_is : {top : List ℕ} {y : Bool} → top ≡ node_in s v 1 → y ≡ same top d.node → same (node_in (shape_of d) v 1) d.node ≡ y
  top_is et ey = sym (ey ∙ rw (et, es) refl)

  pub path-ends : accepts a ≡ true → {top : List ℕ} {y : Bool} → top ≡ node_in s v 1 → y ≡ same top d.node → y ≡ true → A.Accepted ≡ path_to d v n
  unfolding path_to
  path-ends on et ey t = sym (goes_on _ _ (tested path_is on) ∙ yes _ (top_is et ey ∙ t) refl)

  pub path_other : accepts a ≡ true → {top : List ℕ} {y : Bool} → top ≡ node_in s v 1 → y ≡ same top d.node → y ≡ false → A.Altered (P.Node 1) ≡ path_to d v n
  unfolding path_to
  path_other on et ey t = sym (goes_on _ _ (tested path_is on) ∙ no _ (top_is et ey ∙ t) refl)

module _ (d : Drive) (v w : List ℕ) (n : ℕ) {a : Answer} (ea : a ≡ measure_of d v) where
  pub sizes-first : accepts a ≡ false → a ≡ sizes_of d v w n
  unfolding sizes_of
  sizes-first off = ea ∙ sym (stops _ _ (tested ea off))

  module _ (on : accepts a ≡ true) {b : Answer} (eb : b ≡ measure_of d w) where
    pub sizes-second : accepts b ≡ false → b ≡ sizes_of d v w n
    unfolding sizes_of
    sizes-second off = eb ∙ sym (goes_on _ _ (tested ea on) ∙ stops _ _ (tested eb off))

    pub sizes_there : accepts b ≡ true → n < d.n → A.Accepted ≡ sizes_of d v w n
    unfolding sizes_of
    sizes_there t h = sym (goes_on _ _ (tested ea on) ∙ goes_on _ _ (tested eb t) ∙ yes _ (lt-ltb n d.n h) refl)

    pub sizes-past : accepts b ≡ true → d.n ≤ n → A.PastEnd ≡ sizes_of d v w n
    unfolding sizes_of
    sizes-past t h = sym (goes_on _ _ (tested ea on) ∙ goes_on _ _ (tested eb t) ∙ no _ (le-ltb n d.n h) refl)

module _ (d : Drive) (v w : List ℕ) (n : ℕ) {a : Answer} (ea : a ≡ sizes_of d v w n) where
  pub judge-first : accepts a ≡ false → a ≡ twins_answer d v w n
  unfolding twins_answer
  judge-first off = ea ∙ sym (stops _ _ (tested ea off))

  pub judge-second : accepts a ≡ true → {b : Answer} → b ≡ path_to d v n → accepts b ≡ false → b ≡ twins_answer d v w n
  unfolding twins_answer
  judge-second on eb off = eb ∙ sym (goes_on _ _ (tested ea on) ∙ stops _ _ (tested eb off))

  pub judge-last : accepts a ≡ true → {b c : Answer} → b ≡ path_to d v n → accepts b ≡ true → c ≡ path_to d w n → c ≡ twins_answer d v w n
  unfolding twins_answer
  judge-last on eb t ec = ec ∙ sym (goes_on _ _ (tested ea on) ∙ goes_on _ _ (tested eb t))

-- the record bytes and tags of both volumes, as they were compared
module _ (s : Shape) (v w : List ℕ) (n : ℕ) {b : Bool} (eb : b ≡ same (record_part s v n) (record_part s w n)) where
  pub alike_not : b ≡ false → false ≡ alike_in s v w n
  unfolding alike_in
  alike_not off = sym (both_off _ (sym eb ∙ off))

  pub alike_if : b ≡ true → {r : Bool} → r ≡ same (tags_part s v n) (tags_part s w n) → r ≡ alike_in s v w n
  unfolding alike_in
  alike_if on er = er ∙ sym (both-on (sym eb ∙ on) refl)

-- three pieces
pub laid-long : (x y z : List ℕ) → length x + length y + length z ≡ length (x ++ (y ++ z))
laid-long x y z = omega (arith, length-append x (y ++ z), length-append y z)

pub laid : (o x y z : List ℕ) {p q r : List ℕ} → p ≡ sets o 0 x → q ≡ sets p (length x) y → r ≡ sets q (length x + length y) z → r ≡ sets o 0 (x ++ (y ++ z))
laid o x y z ep eq er =
    er ∙ rw (eq, ep) (sym (sets-append o 0 x (y ++ z) (length x) (omega arith) ∙ sets-append (sets o 0 x) (length x) y z (length x + length y) refl))

-- which are a message
pub laid_message : (o m : List ℕ) {l : List ℕ} {r : ℕ} {e : List ℕ} → l ≡ m → (r ≡ length l) × (e ≡ sets o 0 l) → (r ≡ length m) × (e ≡ sets o 0 m)
laid_message o m el p = (p.0 ∙ ap length el, p.1 ∙ ap (λ (x : List ℕ). sets o 0 x) el)

module _ (s : Shape) (v : List ℕ) (i : ℕ) where
  pub inner_is : {x y : List ℕ} → i < leaves s.n → x ≡ node_in s v (2 * i) → y ≡ node_in s v (2 * i + 1) → (0x54 ∷ []) ++ (x ++ y) ≡ message_of s v i
  inner_is h ex ey = rw (ex, ey) (sym (message-inner s v i h))

  pub leaf_is : {first : ℕ} {x y z : List ℕ} → first ≡ leaves s.n → first ≤ i → x ≡ 0x4C ∷ le 4 (i - first) → y ≡ record_part s v (i - first) → z ≡ tags_part s v (i - first)
      → x ++ (y ++ z) ≡ message_of s v i
  leaf_is ef h ex ey ez = rw (ex, ey, ez, ef) (sym (message_bottom s v i (rw (sym ef) h)))

pub start-long : (x : List ℕ) (n : ℕ) → x ≡ 0x4C ∷ le 4 n → length x ≡ 5
start-long x n e = ap length e ∙ omega (arith, length-le 4 n)

-- what is found
module _ (s : Shape) (v w : List ℕ) (n : ℕ) where
  found_alike : alike_in s v w n ≡ true → (u : List ℕ) → found_in s v w n u ≡ []
  unfolding found_in
  found_alike e u = yes _ e refl

  found_other : alike_in s v w n ≡ false → (u : List ℕ) → found_in s v w n u ≡ message_of s u (meeting s v w n)
  unfolding found_in
  found_other e u = no _ e refl

  -- as it is stored, and how long it is
  abbrev pub Laid : ℕ → List ℕ → List ℕ → List ℕ → List ℕ → Type 0
  Laid r one one' two two' = (r ≡ length (found_in s v w n v)) × (one' ≡ sets one 0 (found_in s v w n v)) × (two' ≡ sets two 0 (found_in s v w n w))

  pub none-laid : {b : Bool} → b ≡ alike_in s v w n → b ≡ true → (one two : List ℕ) → Laid 0 one one two two
  none-laid eb on one two =
      let f = found_alike (sym eb ∙ on) v in
      let g = found_alike (sym eb ∙ on) w in
      (rw f refl, rw f refl, rw g refl)

  pub twins_laid : (one two : List ℕ) {b : Bool} {i r k : ℕ} {one' two' : List ℕ} → b ≡ alike_in s v w n → b ≡ false → i ≡ meeting s v w n
      → (r ≡ length (message_of s v i)) × (one' ≡ sets one 0 (message_of s v i)) → (k ≡ length (message_of s w i)) × (two' ≡ sets two 0 (message_of s w i)) → Laid r one one' two two'
  twins_laid one two {i = i} eb off ei p q =
      let f : message_of s v i ≡ found_in s v w n v = ap (λ (j : ℕ). message_of s v j) ei ∙ sym (found_other (sym eb ∙ off) v) in
      let g : message_of s w i ≡ found_in s v w n w = ap (λ (j : ℕ). message_of s w j) ei ∙ sym (found_other (sym eb ∙ off) w) in
      (p.0 ∙ ap length f, p.1 ∙ ap (λ (l : List ℕ). sets one 0 l) f, q.1 ∙ ap (λ (l : List ℕ). sets two 0 l) g)

  pub found_short : Shaped s v → n < s.n → length (found_in s v w n v) ≤ 1055
  found_short l h = go (told (alike_in s v w n))
    where
      go : (alike_in s v w n ≡ true) ⊎ (alike_in s v w n ≡ false) → length (found_in s v w n v) ≤ 1055
      go (inl e) = rw (found_alike e v) (omega arith)
      go (inr e) =
          rw (found_other e v, message-long s v l (meeting s v w n) (meeting-within s v w n l h).1) (long-some s (meeting s v w n) l).1

module _ (d : Drive) (v w : List ℕ) (n : ℕ) {a : Answer} (ea : a ≡ twins_answer d v w n) where
  abbrev pub Found : Twins → List ℕ → List ℕ → List ℕ → List ℕ → Type 0
  Found t one one' two two' = (t ≡ twins_of d v w n) × (one' ≡ sets one 0 (twin_in d v w n v)) × (two' ≡ sets two 0 (twin_in d v w n w))

  found_by : (r : ℕ) (one two : List ℕ) {one' two' : List ℕ} → r ≡ length (twin_in d v w n v) → one' ≡ sets one 0 (twin_in d v w n v) → two' ≡ sets two 0 (twin_in d v w n w)
      → Found (record { answer = a; length = r }) one one' two two'
  unfolding twins_of
  found_by r one two er e f = ((λ i. record { answer = ea i; length = er i }), e, f)

  pub find-accepted : accepts a ≡ true → (one two : List ℕ) {s : Shape} {r : ℕ} {one' two' : List ℕ} → s ≡ shape_of d → Laid s v w n r one one' two two'
      → Found (record { answer = a; length = r }) one one' two two'
  unfolding twin_in
  find-accepted on one two {s} {r} es p =
      let f : found_in s v w n v ≡ twin_in d v w n v = ap (λ (t : Shape). found_in t v w n v) es ∙ sym (yes _ (tested ea on) refl) in
      let g : found_in s v w n w ≡ twin_in d v w n w = ap (λ (t : Shape). found_in t v w n w) es ∙ sym (yes _ (tested ea on) refl) in
      found_by r one two (p.0 ∙ ap length f) (p.1 ∙ ap (λ (l : List ℕ). sets one 0 l) f) (p.2 ∙ ap (λ (l : List ℕ). sets two 0 l) g)

  pub find-refused : accepts a ≡ false → (one two : List ℕ) → Found (record { answer = a; length = 0 }) one one two two
  unfolding twin_in
  find-refused off one two =
      let f : [] ≡ twin_in d v w n v = sym (no _ (tested ea off) refl) in
      let g : [] ≡ twin_in d v w n w = sym (no _ (tested ea off) refl) in
      found_by 0 one two (ap length f) (ap (λ (l : List ℕ). sets one 0 l) f) (ap (λ (l : List ℕ). sets two 0 l) g)
