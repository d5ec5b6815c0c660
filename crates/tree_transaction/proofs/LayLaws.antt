-- A node's sectors as they are laid, one by one.
use Rattle.std.proofs.Common.{◌≡◌, ◌<◌, ◌+◌, ◌-◌, ◌*◌, ℕ, List, length, get_or, take, drop, min, refl, sym, ap, ◌∙◌, arith, subst, inl, inr}
use Rattle.std.proofs.lemmas.Bool.{cases_eq, cases_lt}
use Rattle.std.proofs.lemmas.List.{take_all, length-drop}
use Rattle.disk.specs.Moments.{Image, put}
use Rattle.inode.specs.Encoding.{inode_sector}
use Rattle.extents.specs.declared.run.Run.{Run}
use Rattle.extents.specs.Sector.{run_sector}
use Rattle.layout.specs.CachedNodes.{CachedNode}
use Rattle.layout.specs.Marks.{times}
use Rattle.layout.specs.Laid.{runs_of_sector}
use Rattle.layout.proofs.NumberLaws.{times-at}
use Rattle.tree_transaction.specs.Laying.{AreOnce, LaysPrefix, LaysNode}
use Rattle.tree_transaction.proofs.UpdateLaws.{put-here, put-elsewhere}

-- the slice that is written is the sector's runs
chunk : {A : Type 0} (xs : List A) (from to : ℕ) → to ≡ min (length xs) (from + 500) → take (to - from) (drop from xs) ≡ take 500 (drop from xs)
chunk xs from to e = elim (cases_lt (length xs) (from + 500)) [
  | inl short ↦ take_all (to - from) (drop from xs) (omega (arith, length-drop from xs)) ∙ sym (take_all 500 (drop from xs) (omega (arith, length-drop from xs)))
  | inr long ↦ (let all : to - from ≡ 500 = omega arith in ap (λ (n : ℕ). take n (drop from xs)) all)
]

pub lays-next : (old now new : Image) (numbers : List ℕ) (runs : List Run) (i to : ℕ) (content : List ℕ) → AreOnce numbers → i < length numbers → LaysPrefix old now numbers runs i
    → to ≡ min (length runs) (500 * i + 500) → content ≡ run_sector (take (to - 500 * i) (drop (500 * i) runs)) → new ≡ put now (record { target = get_or numbers i 0; content = content })
    → LaysPrefix old new numbers runs (i + 1)
lays-next old now new numbers runs i to content once h prefix to_is content_is new_is = record {
  encoded = λ j lt. ap (λ (image : Image). image (get_or numbers j 0)) new_is ∙ elim (cases_eq j i) [
    | inl e ↦ put-here now (record { target = get_or numbers i 0; content = content }) (get_or numbers j 0) (ap (λ (k : ℕ). get_or numbers k 0) (sym e)) ∙ content_is ∙ ap run_sector (chunk runs (500 * i) to to_is)
        ∙ ap (λ (k : ℕ). run_sector (runs_of_sector k runs)) (sym e)
    | inr off ↦ put-elsewhere now (record { target = get_or numbers i 0; content = content }) (get_or numbers j 0) (λ e. once j i (omega arith) h (sym e)) ∙ prefix.encoded j (omega arith)
  ];
  others = λ n none. ap (λ (image : Image). image n) new_is
      ∙ put-elsewhere now (record { target = get_or numbers i 0; content = content }) n (λ e. let some = times-at numbers i 0 h in let same : times (get_or numbers i 0) numbers ≡ times n numbers = ap (λ (k : ℕ). times k numbers) e in omega arith)
      ∙ prefix.others n none;
}

pub lays-node : (old now new : Image) (sector : ℕ) (cached_node : CachedNode) (content : List ℕ) → times sector cached_node.fields.run_sectors ≡ 0 → LaysPrefix old now cached_node.fields.run_sectors cached_node.runs (length cached_node.fields.run_sectors)
    → content ≡ inode_sector cached_node.form cached_node.fields → new ≡ put now (record { target = sector; content = content }) → LaysNode old new sector cached_node
lays-node old now new sector cached_node content apart prefix content_is new_is = record {
  node = ap (λ (image : Image). image sector) new_is ∙ put-here now (record { target = sector; content = content }) sector refl ∙ content_is;
  run_sectors = λ i h. ap (λ (image : Image). image (get_or cached_node.fields.run_sectors i 0)) new_is
      ∙ put-elsewhere now (record { target = sector; content = content }) (get_or cached_node.fields.run_sectors i 0) (λ e. let some = times-at cached_node.fields.run_sectors i 0 h in
      let same : times (get_or cached_node.fields.run_sectors i 0) cached_node.fields.run_sectors ≡ times sector cached_node.fields.run_sectors = ap (λ (k : ℕ). times k cached_node.fields.run_sectors) (sym e) in omega arith)
      ∙ prefix.encoded i h;
  others = λ n off none. ap (λ (image : Image). image n) new_is ∙ put-elsewhere now (record { target = sector; content = content }) n (λ e. off (sym e)) ∙ prefix.others n none;
}

pub lays-cached : (old now new : Image) (sector : ℕ) (cached_node : CachedNode) (numbers : List ℕ) (runs : List Run) (content : List ℕ) → numbers ≡ cached_node.fields.run_sectors → runs ≡ cached_node.runs → times sector cached_node.fields.run_sectors ≡ 0
    → LaysPrefix old now numbers runs (length numbers) → content ≡ inode_sector cached_node.form cached_node.fields → new ≡ put now (record { target = sector; content = content }) → LaysNode old new sector cached_node
lays-cached old now new sector cached_node numbers runs content e f apart prefix content_is new_is =
    lays-node old now new sector cached_node content apart (subst (λ (r : List Run). LaysPrefix old now cached_node.fields.run_sectors r (length cached_node.fields.run_sectors)) f (subst (λ (n : List ℕ). LaysPrefix old now n runs (length n)) e prefix)) content_is new_is
