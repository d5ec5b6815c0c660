-- The first sector is the caller's own: no gate names it.
use Rattle.std.proofs.Common.{ℕ, suc, List, [], ◌∷◌, ◌≡◌, ◌+◌, ◌<◌, ◌≤◌, ◌∙◌, inl, refl, ap, arith, length, slice_index_or}
use Rattle.disk.specs.Moments.{Image}
use Rattle.journal.specs.declared.layout.LogArea.{LogArea}
use Rattle.journal.specs.Layout.{home_from}
use Rattle.journal.specs.Settled.{Settles}
use Rattle.journal.proofs.Images.{home_other}

-- the gate has no target in front of sector 98
home_first : (to : List ℕ) (place : ℕ) → ((k d : ℕ) → k < length to → 98 ≤ slice_index_or to k d) → home_from 0 to place 0 ≡ 0
home_first [] place far = refl
home_first (t ∷ to) place far =
    let first : 98 ≤ t = far 0 0 (omega arith) in
    home_other 0 t to place 0 (λ same. omega (arith, same, first)) ∙ home_first to (place + 1) (λ k d few. far (suc k) d (omega (arith, few)))

pub first_kept : (area : LogArea) (image base : Image) → 0 < area.end → Settles area image base → base 0 ≡ image 0
first_kept area image base large settles = settles.same 0 (inl refl, large) ∙ ap image (home_first settles.to area.first (λ k d few. settles.fit.from_first k d few))
