-- "A refusal stores nothing"; "A refused format or mount returns the blank drive"; a format keeps the volume's length.
use mathlib.Core.Path.{◌≡◌, refl, sym, ◌∙◌}
use mathlib.Core.Bool.{true, false}
use mathlib.Core.Logic.{◌⊎◌, inl, inr}
use mathlib.Core.List.{List}
use Prim.Native.Nat.{ℕ}
use lib.ListN.{length}
use lib.Seq.{length-sets}
use Rattle.base.proofs.PickLaws.{told}
use Rattle.answers.specs.Answer as A
use Rattle.answers.specs.Numbers.{accepts}
use Rattle.layout.specs.declared.Shape.{Shape}
use Rattle.drive.specs.Drive.{blank_drive}
use Rattle.drive.specs.Head.{head_of}
use Rattle.opening.specs.Format.{format_answer, planted, fresh_drive, fresh_volume, format_done, format_volume}
use Rattle.opening.specs.Mount.{mount_answer, mount_done}
use Rattle.opening.proofs.FormatLaws.{format_lent, format_off, length-planted}
use Rattle.opening.proofs.MountLaws.{mount_off}
use Rattle.answers.proofs.StageLaws.{refuses}

module _ (s : Shape) (salt secret : List ℕ) (outside : ℕ) (v : List ℕ) where
  pub format-refused : (format_answer s outside v ≡ A.Accepted → ⊥)
      → (format_volume s salt secret outside v ≡ v)
      × (format_done s salt secret outside v ≡ record { answer = format_answer s outside v; drive = blank_drive })
  format-refused h =
      let (done, kept) = format_off s salt secret outside v refl (refuses (format_answer s outside v) h) refl in
      (sym kept, sym done)

  pub format-length : length (format_volume s salt secret outside v) ≡ length v
  unfolding format_volume fresh_volume
  format-length = go (told (accepts (format_answer s outside v)))
    where
      go : (accepts (format_answer s outside v) ≡ true) ⊎ (accepts (format_answer s outside v) ≡ false) → length (format_volume s salt secret outside v) ≡ length v
      go (inl e) = rw e (length-sets (planted s) 0 (head_of (fresh_drive s salt secret outside)) ∙ length-planted s ∙ sym (format_lent s outside v e).0.size)
      go (inr e) = rw e refl

pub mount-refused : (v present old : List ℕ) (outside : ℕ) → (mount_answer v present old outside ≡ A.Accepted → ⊥)
    → mount_done v present old outside ≡ record { answer = mount_answer v present old outside; drive = blank_drive }
mount-refused v present old outside h = sym (mount_off v present old outside refl (refuses (mount_answer v present old outside) h) refl)
