use Rattle.std.proofs.Common.{◌≡◌, ◌<◌, ◌+◌, ◌^◌, ◌%◌, ℕ, inl, inr, subst, arith}
use Rattle.std.proofs.lemmas.Bool.{cases_lt}
use Rattle.model_tree.specs.Trees.Stamp.{next_stamp, stamp}
use Rattle.fs.specs.Opening.{IsShortNumber}
use Rattle.fs.specs.Views.{fs_of}
use Rattle.fs.proofs.fs.Fs.next_stamp.Goals as goal

-- the sum is the next stamp, or wraps to 0
wrapped : (run changes before : ℕ) → before ≡ stamp run changes → before < 2 ^ 64 → IsShortNumber (next_stamp run changes) ((before + 1) % 2 ^ 64)
wrapped run changes before is low = elim (cases_lt (before + 1) (2 ^ 64)) [
  | inl fits ↦ inl (omega (arith, is, fits), omega (arith, fits))
  | inr high ↦ inr (omega (arith, low, high), omega (arith, is, high))
]

pub returns : goal.returns
unfolding fs_of
returns g c =
    subst (λ (run : ℕ). IsShortNumber (next_stamp run c.args.self.now.changes) ((c.stamp.result + 1) % 2 ^ 64)) c.restart_count.ensures
    (wrapped c.restart_count.result c.args.self.now.changes c.stamp.result c.stamp.ensures c.stamp.type_inv)
