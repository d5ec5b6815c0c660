-- A cached node's runs and run sectors, rewritten.
use Rattle.std.proofs.Common.{◌≡◌, ◌≤◌, ◌<◌, ◌+◌, ◌/◌, ◌^◌, ℕ, Bool, List, [], ◌∷◌, length, arith, inl, inr}
use Rattle.std.proofs.lemmas.Bool.{cases_lt}
use Rattle.std.specs.List.{AllByRecursion}
use Rattle.inode.specs.declared.node.Form.{Form}
use Rattle.inode.specs.Fields.{Fields, IsInode, IsRunSector}
use Rattle.layout.specs.Marks.{times}
use Rattle.layout.specs.Marks.{mark_by}
use Rattle.layout.proofs.MarkProofs.{each_mark, mark-prefix}
use Rattle.layout.proofs.NumberLaws.{once-here}
use Rattle.tree_transaction.specs.Laying.{Follow, AreMarked, AreOnce, fields_with}
use Rattle.tree_transaction.proofs.NumberLaws.{are_once}

pub fields-fit : (form : Form) (fields : Fields) (runs : ℕ) (numbers : List ℕ) → IsInode form fields → runs ≤ 4500 → length numbers ≡ (runs + 499) / 500 → AllByRecursion IsRunSector numbers → IsInode form (fields_with fields runs numbers)
fields-fit form fields runs numbers fit few long each = record {
  number = fit.number;
  owner = fit.owner;
  group = fit.group;
  change = fit.change;
  time_modify = fit.time_modify;
  size = fit.size;
  runs = few;
  run_sectors = long;
  each_run_sector = each;
  acl = fit.acl;
  each_ace = fit.each_ace;
}

pub numbers-fit : (first : ℕ) (places : List Bool) (numbers : List ℕ) → 0 < first → first + length places < 2 ^ 32 → AreMarked first places numbers → AllByRecursion IsRunSector numbers
numbers-fit first places [] some small marked = tt
numbers-fit first places (x ∷ numbers) some small marked =
    let each = each_mark first places 0 in
    let here : 0 < mark_by first places x = omega (arith, marked x, once-here x) in
    let below : x < first + length places = elim (cases_lt x (first + length places)) [ inl low ↦ low | inr high ↦ absurd (let none = each.within x high in omega arith) ] in
    (record { some = omega (arith, each.behind x here); fits = omega arith }, numbers-fit first places numbers some small (λ n. let all = marked n in omega arith))

pub follow-marked : (first : ℕ) (was is : List Bool) (named numbers : List ℕ) → Follow first was is named numbers → AreMarked first was named → AreMarked first is numbers
follow-marked first was is named numbers follow marked n = omega (arith, follow n, marked n)

pub marked-once : (first : ℕ) (places : List Bool) (numbers : List ℕ) → AreMarked first places numbers → AreOnce numbers
marked-once first places numbers marked = are_once numbers (λ n. let each = each_mark first places 0 in omega (arith, marked n, each.once n))

pub marked-apart : (first : ℕ) (places : List Bool) (numbers : List ℕ) (sector : ℕ) → AreMarked first places numbers → sector < first → times sector numbers ≡ 0
marked-apart first places numbers sector marked h = omega (arith, marked sector, mark-prefix first places sector h)
