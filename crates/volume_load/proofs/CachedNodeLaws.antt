-- The cached node of a place.
use Rattle.std.proofs.Common.{◌≡◌, ◌≤◌, ◌<◌, ◌+◌, ◌-◌, ◌*◌, ◌/◌, ℕ, Bool, List, Option, Some, None, length, get_or, drop, min, refl, sym, ap, ap₂, subst, ◌∙◌, arith}
use Rattle.std.proofs.lemmas.List.{length-take, length-drop, ext_get_or}
use Rattle.disk.specs.Moments.{Image}
use Rattle.disk.specs.Calls.{zero_sector}
use Rattle.extents.specs.declared.run.Run.{Run}
use Rattle.extents.specs.Reading.{runs_in}
use Rattle.extents.specs.Runs.{AreRunsOf}
use Rattle.extents.specs.Sector.{IsRun}
use Rattle.extents.proofs.ReadBack.{runs-back}
use Rattle.inode.specs.declared.node.Form.{Form}
use Rattle.inode.specs.declared.node.Form.TheVariants.{One, Two}
use Rattle.inode.specs.Fields.{Fields}
use Rattle.inode.specs.Encoding.{inode_sector}
use Rattle.inode.proofs.ReadBack.{one_node}
use Rattle.layout.specs.CachedNodes.{CachedNode, node_sector}
use Rattle.layout.specs.Laid.{runs_of_sector}
use Rattle.layout.specs.Marks.{times, times_set, namings_of, mark_by}
use Rattle.layout.proofs.Frame.{times_set-at}
use Rattle.layout.proofs.NumberLaws.{times-at}
use Rattle.layout.proofs.ChargeLaws.{named-none}
use Rattle.layout.proofs.FileLaws.{zero_sector-at}
use Rattle.volume_load.specs.CachedNodes.{uses, FindsBlocks, FindsRest, FindsPlace}
use Rattle.volume_load.specs.Marking.{max_marks, CanMark, AreMarked}
use Rattle.volume_load.specs.Names.{AreSetWithin, FindsContent}
use Rattle.volume_load.specs.Places.{FindsNode, FindsFields}
use Rattle.volume_load.specs.Runs.{SectorsWithin, FindsRuns}
use Rattle.volume_load.proofs.MarkingLaws.{most-some, can_more, can_marked}
use Rattle.volume_load.proofs.NameLaws.{same_at}
use Rattle.volume_load.proofs.RunLaws.{all-take, all-drop}

-- At most one list of runs, and one of blocks, is found

no_run : Run
no_run = record { block = 0; length = 0; sector = 0 }

pub one_runs : (word : Type 0) (image : Image) (sectors : List ℕ) (count : ℕ) (a b : List Run) → word → FindsRuns word image sectors count a → FindsRuns word image sectors count b → length sectors ≡ (count + 499) / 500 → a ≡ b
one_runs word image sectors count a b w first second enough = ext_get_or no_run a b (first.count_is ∙ sym second.count_is) (λ k h. same_at no_run a b (500 * (k / 500)) 500 k (omega arith) (omega arith) (part (k / 500) (omega (arith, first.count_is))))
  where
    of : (i : ℕ) (runs : List Run) → FindsRuns word image sectors count runs → length (runs_of_sector i runs) ≡ min 500 (count - 500 * i)
    of i runs found = omega (arith, length-take 500 (drop (500 * i) runs), length-drop (500 * i) runs, found.count_is)

    back : (i : ℕ) (runs : List Run) → FindsRuns word image sectors count runs → i < length sectors → runs_in (min 500 (count - 500 * i)) (image (get_or sectors i 0)) ≡ runs_of_sector i runs
    back i runs found h = ap₂ runs_in (sym (of i runs found)) (found.encoded w i h) ∙ runs-back (runs_of_sector i runs) (all-take IsRun 500 (drop (500 * i) runs) (all-drop IsRun (500 * i) runs found.each))

    part : (i : ℕ) → i < length sectors → runs_of_sector i a ≡ runs_of_sector i b
    part i h = sym (back i a first h) ∙ back i b second h

one_blocks : (runs : List Run) (a b : List (Option ℕ)) → AreRunsOf runs a → AreRunsOf runs b → length a ≡ length b → a ≡ b
one_blocks runs a b first second long = ext_get_or None a b long (λ k h. first.same k ∙ sym (second.same k))

pub same_blocks : (word : Type 0) (image : Image) (fields : Fields) (runs others : List Run) (a b : List (Option ℕ)) → word → length fields.run_sectors ≡ (fields.runs + 499) / 500 → FindsBlocks word image fields runs a → FindsBlocks word image fields others b → a ≡ b
same_blocks word image fields runs others a b w enough first second =
    let same : runs ≡ others = one_runs word image fields.run_sectors fields.runs runs others w first.in_sectors second.in_sectors enough in
    one_blocks others a b (subst (λ (l : List Run). AreRunsOf l a) same first.laid) second.laid (first.count ∙ sym second.count)

-- What was marked can be read

marked_within : (first : ℕ) (old new : List Bool) (often : ℕ → ℕ) (size n : ℕ) → ((n : ℕ) → mark_by first new n ≤ max_marks first (length new) n) → AreMarked first old new often → first + length old ≤ size → 0 < often n → n < size
marked_within first old new often size n most marked long some =
    let there = most-some first (length new) n (omega (arith, most n, marked.marks n)) in
    omega (arith, there.1, marked.len)

pub sectors_within : (first : ℕ) (old new : List Bool) (sectors : List ℕ) (size : ℕ) → AreMarked first old new (λ n. times n sectors) → first + length old ≤ size → SectorsWithin size sectors
sectors_within first old new sectors size marked long i h =
    marked_within first old new (λ n. times n sectors) size (get_or sectors i 0) (can_marked first new) marked long (times-at sectors i 0 h)

pub blocks_within : (first : ℕ) (old new : List Bool) (blocks : List (Option ℕ)) (size : ℕ) → AreMarked first old new (λ n. times_set n blocks) → first + length old ≤ size → AreSetWithin size blocks
blocks_within first old new blocks size marked long i sector is =
    marked_within first old new (λ n. times_set n blocks) size sector (can_marked first new) marked long (times_set-at blocks i sector is)

pub can_blocks : (first : ℕ) (places mid : List Bool) (fields : Fields) (blocks : List (Option ℕ)) → AreMarked first places mid (λ n. times n fields.run_sectors) → CanMark first places (uses fields blocks) → CanMark first mid (λ n. times_set n blocks)
can_blocks first places mid fields blocks marked can = can_more first places mid (λ n. times n fields.run_sectors) (λ n. times_set n blocks) (uses fields blocks) (λ n. omega arith) marked can

-- A place

named-is : (n : ℕ) (cached : CachedNode) → namings_of n (Some cached) ≡ uses cached.fields cached.blocks n
unfolding namings_of
named-is n cached = refl

pub marked_cached : (first : ℕ) (old new : List Bool) (cached : CachedNode) → AreMarked first old new (uses cached.fields cached.blocks) → AreMarked first old new (λ n. namings_of n (Some cached))
marked_cached first old new cached marked = record { len = marked.len; marks = λ n. omega (arith, marked.marks n, named-is n cached) }

pub marked_free : (first : ℕ) (places : List Bool) → AreMarked first places places (λ n. namings_of n None)
marked_free first places = record { len = refl; marks = λ n. omega (arith, named-none n) }

starts : (form : Form) (fields : Fields) → get_or (inode_sector form fields) 0 0 ≡ 78
unfolding inode_sector
starts One fields = refl
starts Two fields = refl

not_both : (form : Form) (content : List ℕ) (fields : Fields) → content ≡ zero_sector → content ≡ inode_sector form fields → ⊥
not_both form content fields free used = absurd (let e : 0 ≡ 78 = sym (zero_sector-at 0) ∙ ap (λ (l : List ℕ). get_or l 0 0) (sym free ∙ used) ∙ starts form fields in omega arith)

pub fields_there : Option CachedNode → Option Fields
fields_there None = None
fields_there (Some cached) = Some cached.fields

pub found_there : (word : Type 0) (form : Form) (image : Image) (place : ℕ) (cached : Option CachedNode) → FindsPlace word form image place cached → FindsFields word form (image (node_sector place)) (fields_there cached)
unfolding fields_there
found_there word form image place None found = found
found_there word form image place (Some cached) found = found.node

module _ (word : Type 0) (form : Form) (image : Image) (place first : ℕ) (places : List Bool) (fields : Fields) (w : word) (node : FindsNode word form (image (node_sector place)) fields) where
  pub none_there : ((cached : CachedNode) → cached.fields ≡ fields → FindsRest word image cached → CanMark first places (uses cached.fields cached.blocks) → ⊥) → (cached : Option CachedNode) → FindsPlace word form image place cached
      → CanMark first places (λ n. namings_of n cached) → ⊥
  none_there none None found can = not_both form (image (node_sector place)) fields (found w) (node.encoded w)
  none_there none (Some cached) found can =
      none cached (one_node form form cached.fields fields found.node.fits node.fits (sym (found.node.encoded w) ∙ node.encoded w)).1 found.rest (λ n. omega (arith, can n, named-is n cached))

pub same_find : (word : Type 0) (image : Image) (numbers others : List ℕ) (count more : ℕ) (runs : List Run) → numbers ≡ others → count ≡ more → FindsRuns word image numbers count runs → FindsRuns word image others more runs
same_find word image numbers others count more runs a b found = subst (λ (n : ℕ). FindsRuns word image others n runs) b (subst (λ (l : List ℕ). FindsRuns word image l count runs) a found)

pub content_there : (word : Type 0) (image other : Image) (fields : Fields) (cached : CachedNode) (runs : List Run) (blocks : List (Option ℕ)) → word → image ≡ other → length fields.run_sectors ≡ (fields.runs + 499) / 500 → cached.fields ≡ fields → FindsRest word image cached → FindsBlocks word image fields runs blocks
    → FindsContent word other fields.kind fields.size blocks cached.names
content_there word image other fields cached runs blocks w moved enough same found read =
    let there = subst (λ (f : Fields). FindsBlocks word image f cached.runs cached.blocks) same found.in_blocks in
    let one : cached.blocks ≡ blocks = same_blocks word image fields cached.runs runs cached.blocks blocks w enough there read in
    subst (λ (i : Image). FindsContent word i fields.kind fields.size blocks cached.names) moved
    (subst (λ (l : List (Option ℕ)). FindsContent word image fields.kind fields.size l cached.names) one
    (subst (λ (f : Fields). FindsContent word image f.kind f.size cached.blocks cached.names) same found.content))
