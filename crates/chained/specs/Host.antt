-- A host in C over any list of calls. It starts from an accepted `ngt_format` or `ngt_format_as` and hands image and volume, as the last call left
-- them, to the next one. Each statement is proved, under the same name in small letters, in proofs/Host.antt.
use Prim.{Unit}
use Rattle.std.specs.Prelude.{ℕ, ◌≡◌, List, [], ◌∷◌, length}
use Rattle.packed.specs.Image.{drive_image, drive_in}
use Rattle.ngt.specs.Calls.{Tells, Formatted, Mounted, Filled, Reported, Shown, Begun, Swept, Finished, Discarded, Written}
use Rattle.history.specs.World.{World, Call, mount, write, begin, sweep, finish, discard, asks, read, report, stored}
use Rattle.history.specs.Step.{old_for, answer_to, step}
use Rattle.history.specs.History.{Start, begun, history}

-- what the host carries from call to call
pub record Host : Type 0 where
  pub image : List ℕ
  pub vol : List ℕ

-- what it gets from a call: its number, the answer's image, and what the call fills (a buffer, a report, a span)
pub record Got : Type 0 where
  pub number : ℕ
  pub answer : List ℕ
  pub filled : List ℕ

-- What the C function of a call promises, in its own `ensures`: from host h, by call c, to host k. Where image or volume are
-- lent to be read alone, they are those of h. A mount is given the secrets and the counter that the user keeps (those of w).
abbrev pub Makes : World → Host → Call → Got → Host → Type 0
Makes w h (mount any) g k = Mounted h.vol w.secret (old_for w any) w.outside g.number k.image g.answer × (k.vol ≡ h.vol)
Makes w h (write o bytes) g k = Written (drive_in h.image) h.vol o bytes h.image g.number k.vol k.image g.answer
Makes w h (begin secret) g k = Begun (drive_in h.image) h.vol secret h.image g.number k.vol k.image g.answer
Makes w h (sweep n) g k = Swept (drive_in h.image) h.vol n h.image g.number k.vol k.image g.answer
Makes w h finish g k = Finished (drive_in h.image) h.vol h.image g.number k.vol k.image g.answer
Makes w h (discard n first count) g k = Discarded (drive_in h.image) h.vol n first count h.image g.number k.vol k.image g.answer
Makes w h (asks (read o buffer)) g k = Filled (drive_in h.image) h.vol o buffer g.number g.filled g.answer × (k ≡ h)
Makes w h (asks report) g k = Reported (drive_in h.image) h.vol g.number g.filled g.answer × (k ≡ h)
Makes w h (asks (stored n f)) g k = Shown (drive_in h.image) h.vol n f g.number g.filled g.answer × (k ≡ h)

-- `ngt_format`, or `ngt_format_as` for another version, with what the history starts from
abbrev pub Starts : Start → Host → Type 0
Starts x h =
    (g : Got) × Formatted x.shape x.salt x.secret x.outside x.given g.number h.vol h.image g.answer

-- one call after another, each on what the last one left
unfoldable pub Chain : World → Host → List Call → Host → Type 0
Chain w h [] k = k ≡ h
Chain w h (c ∷ calls) k = (g : Got) × (m : Host) × Makes w h c g m × Chain (step w c) m calls k

-- a secret has 32 bytes, as the C types say; of no other argument is anything asked
abbrev pub TypedCall : Call → Type 0
TypedCall (mount any) = Unit {0}
TypedCall (write o bytes) = Unit {0}
TypedCall (begin secret) = length secret ≡ 32
TypedCall (sweep n) = Unit {0}
TypedCall finish = Unit {0}
TypedCall (discard n first count) = Unit {0}
TypedCall (asks q) = Unit {0}

unfoldable pub Typed : List Call → Type 0
Typed [] = Unit {0}
Typed (c ∷ calls) = TypedCall c × Typed calls

-- what a host carries for a world of the history
abbrev pub host_of : World → Host
host_of w = record { image = drive_image w.drive; vol = w.vol }

-- After any list of calls the host carries exactly image and volume of the history's world, and its image is that world's drive.
-- So every statement of the history speaks of the host.
abbrev pub HostFollows : Type 0
HostFollows =
    (start : Start) (calls : List Call) (first last : Host) → length start.secret ≡ 32 → Typed calls
    → Starts start first → Chain (begun start) first calls last
    → let w = history start calls in
    (last ≡ host_of w) × (drive_in last.image ≡ w.drive)

-- And what it is then told by any further call is the history's answer.
abbrev pub HostIsTold : Type 0
HostIsTold =
    (start : Start) (calls : List Call) (c : Call) (first last next : Host) (got : Got) → length start.secret ≡ 32 → Typed calls
    → Starts start first → Chain (begun start) first calls last
    → let w = history start calls in
    Makes w last c got next → Tells (answer_to w c) got.number got.answer
