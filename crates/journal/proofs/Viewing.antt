-- What is read through a commit record that is set.
use Rattle.std.proofs.Common.{◌≡◌, ◌+◌, ◌≤◌, ◌<◌, ℕ, List, length, refl, sym, subst, arith, ⊎_elim}
use Rattle.disk.specs.Moments.{History, IsSector, seen}
use Rattle.journal.specs.declared.layout.LogArea.{LogArea}
use Rattle.journal.specs.Layout.{AreNamed, gate, home}
use Rattle.journal.specs.Log.{Log}
use Rattle.journal.specs.Viewed.{HasViewed, viewed}
use Rattle.journal.proofs.Images.{home_cases}

-- it is on the device
home_within : (area : LogArea) (size : ℕ) (to : List ℕ) (n : ℕ) → area.first + area.sectors ≤ size → length to ≤ area.sectors → n < size → home to area.first n < size
home_within area size to n large few within = ⊎_elim (λ own. omega (arith, own.1)) (λ shown. omega (arith, shown.1)) (home_cases to area.first n)

pub through_gate : (area : LogArea) (size : ℕ) (h : History) (to : List ℕ) → area.first + area.sectors ≤ size → length to ≤ area.sectors → AreNamed area to → seen h.now 1 ≡ gate to
    → ((n : ℕ) → n < size → IsSector (seen h.now n)) → (log : Log) → log ≡ viewed area to size h → HasViewed area h log
through_gate area size h to large few fit gate_is holds log is = subst (HasViewed area h) (sym is) (record {
  base = record { to = to; few = few; fit = fit; gate_is = gate_is; same = λ n kept. refl };
  sectors = λ n within. holds (home to area.first n) (home_within area size to n large few within);
})
