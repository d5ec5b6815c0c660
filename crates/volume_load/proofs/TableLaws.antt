-- The cached nodes of a table.
use Rattle.std.proofs.Common.{◌≡◌, ◌≢◌, ◌≤◌, ◌<◌, ◌+◌, ◌-◌, ℕ, zero, suc, false, List, [], ◌∷◌, ◌++◌, Option, Some, None, length, get_or, take, replicate, refl, sym, ap, subst, ◌∙◌, arith, inl, inr, eqb, eq-eqb, ne_eqb}
use Rattle.std.proofs.lemmas.Bool.{cases_lt, cases_eq}
use Rattle.std.proofs.lemmas.List.{length-replicate, get_or-replicate, get_or_past, get_or_append_left}
use Rattle.std.proofs.Math.Seq.{get_or-append_seam}
use Rattle.std.proofs.lemmas.Option.{none-some}
use Rattle.disk.specs.Moments.{Image}
use Rattle.freemap.specs.Places.{bit_from}
use Rattle.inode.specs.declared.node.Form.{Form}
use Rattle.inode.specs.Fields.{IsInode}
use Rattle.inode.specs.Encoding.{inode_sector}
use Rattle.model_tree.specs.declared.node.NodeKind.{NodeKind}
use Rattle.model_tree.specs.declared.node.NodeKind.TheVariants as kind
use Rattle.layout.specs.CachedNodes.{CachedNode}
use Rattle.layout.specs.Laid.{HoldsPlace, HoldsContent, AreNumbered}
use Rattle.layout.specs.Known.{HasContent, IsNodePlace}
use Rattle.layout.specs.Marks.{once_if, times, named, namings_of, mark_by}
use Rattle.layout.proofs.CachedNodeLaws.{cached-back}
use Rattle.layout.proofs.MarkProofs.{mark-prefix, mark-back}
use Rattle.volume_load.specs.CachedNodes.{FindsPlace, ArePlaces, numbers_of}
use Rattle.volume_load.specs.Names.{FindsContent}

-- What is found is held if the device keeps its word, and what is held is found

content_held : (word : Type 0) (image : Image) (kind : NodeKind) (cached_node : CachedNode) → word → FindsContent word image kind cached_node.fields.size cached_node.blocks cached_node.names → HoldsContent image kind cached_node
content_held word image kind.File cached_node w found = record { unnamed = found.unnamed; tail = found.tail w }
content_held word image kind.Directory cached_node w found = record { count = found.count; names = found.directory; stamped = found.stamped; encoded = found.encoded w }

pub place_held : (word : Type 0) (form : Form) (image : Image) (place : ℕ) (cached_node : Option CachedNode) → word → FindsPlace word form image place cached_node → HoldsPlace image place cached_node
place_held word form image place None w found = found w
place_held word form image place (Some cached_node) w found =
    let rest = found.rest in
    let blocks = rest.in_blocks in
    record {
      node = record {
        fits = subst (λ (f : Form). IsInode f cached_node.fields) (sym found.form) found.node.fits;
        number = found.node.number;
        sector = found.node.encoded w ∙ ap (λ (f : Form). inode_sector f cached_node.fields) (sym found.form);
        each_run = blocks.in_sectors.each;
        run_count = blocks.in_sectors.count_is;
        run_sectors = blocks.in_sectors.encoded w;
        runs = blocks.laid;
        blocks = blocks.count;
      };
      content = content_held word image cached_node.fields.kind cached_node w rest.content;
    }

content_known : (word : Type 0) (image : Image) (kind : NodeKind) (cached_node : CachedNode) → FindsContent word image kind cached_node.fields.size cached_node.blocks cached_node.names → HasContent kind cached_node
content_known word image kind.File cached_node found = found.unnamed
content_known word image kind.Directory cached_node found = record { count = found.count; names = found.directory; stamped = found.stamped }

pub place_known : (word : Type 0) (form : Form) (image : Image) (place : ℕ) (cached_node : Option CachedNode) → FindsPlace word form image place cached_node → IsNodePlace cached_node
place_known word form image place None found = tt
place_known word form image place (Some cached_node) found =
    let rest = found.rest in
    let blocks = rest.in_blocks in
    record {
      fits = subst (λ (f : Form). IsInode f cached_node.fields) (sym found.form) found.node.fits;
      number = found.node.number;
      each_run = blocks.in_sectors.each;
      run_count = blocks.in_sectors.count_is;
      runs = blocks.laid;
      blocks = blocks.count;
      content = content_known word image cached_node.fields.kind cached_node rest.content;
    }

content_found : (word : Type 0) (image : Image) (kind : NodeKind) (cached_node : CachedNode) → HoldsContent image kind cached_node → FindsContent word image kind cached_node.fields.size cached_node.blocks cached_node.names
content_found word image kind.File cached_node holds = record { unnamed = holds.unnamed; tail = λ w. holds.tail }
content_found word image kind.Directory cached_node holds = record { count = holds.count; directory = holds.names; stamped = holds.stamped; encoded = λ w. holds.encoded }

pub place_found : (word : Type 0) (form : Form) (image : Image) (place : ℕ) (cached_node : Option CachedNode) → ((one : CachedNode) → cached_node ≡ Some one → one.form ≡ form) → ((one : CachedNode) → cached_node ≡ Some one → length one.blocks ≤ 4096) → HoldsPlace image place cached_node → FindsPlace word form image place cached_node
place_found word form image place None forms few holds = λ w. holds
place_found word form image place (Some cached_node) forms few holds = record {
  form = forms cached_node refl;
  node = record {
    fits = subst (λ (f : Form). IsInode f cached_node.fields) (forms cached_node refl) holds.node.fits;
    number = holds.node.number;
    encoded = λ w. holds.node.sector ∙ ap (λ (f : Form). inode_sector f cached_node.fields) (forms cached_node refl);
  };
  rest = record {
    in_blocks = record {
      in_sectors = record { each = holds.node.each_run; count_is = holds.node.run_count; encoded = λ w. holds.node.run_sectors };
      laid = holds.node.runs;
      count = holds.node.blocks;
      few = few cached_node refl;
    };
    content = content_found word image cached_node.fields.kind cached_node holds.content;
  };
}

-- so at most one cached node is found at a place
pub one_place : (word : Type 0) (form : Form) (image : Image) (place : ℕ) (a b : Option CachedNode) → word → FindsPlace word form image place a → FindsPlace word form image place b → a ≡ b
one_place word form image place a b w first second = sym (cached-back image place a (place_held word form image place a w first)) ∙ cached-back image place b (place_held word form image place b w second)

-- Sums of what is named

pub named-push : (n : ℕ) (cached_nodes : List (Option CachedNode)) (cached_node : Option CachedNode) → named n (cached_nodes ++ cached_node ∷ []) ≡ named n cached_nodes + namings_of n cached_node
named-push n [] cached_node = omega arith
named-push n (one ∷ cached_nodes) cached_node = omega (arith, named-push n cached_nodes cached_node)

pub named-prefix : (n : ℕ) (prefix cached_nodes : List (Option CachedNode)) → length prefix < length cached_nodes → ((p : ℕ) → p < length prefix → get_or prefix p None ≡ get_or cached_nodes p None)
    → named n prefix + namings_of n (get_or cached_nodes (length prefix) None) ≤ named n cached_nodes
named-prefix n prefix [] h same = absurd (omega arith)
named-prefix n [] (cached_node ∷ cached_nodes) h same = omega arith
named-prefix n (one ∷ prefix) (cached_node ∷ cached_nodes) h same =
    let first : one ≡ cached_node = same 0 (omega arith) in
    let e : namings_of n one ≡ namings_of n cached_node = ap (namings_of n) first in
    omega (arith, named-prefix n prefix cached_nodes (omega arith) (λ p below. same (suc p) (omega arith)))

-- if a table begins with those that were found, its next place can be marked
pub next_fits : (word : Type 0) (form : ℕ → Form) (image : Image) (nodes n : ℕ) (prefix cached_nodes : List (Option CachedNode)) → word → length cached_nodes ≡ nodes → length prefix < nodes → ((p : ℕ) → p < length prefix → FindsPlace word (form p) image p (get_or prefix p None)) → ArePlaces word form image nodes cached_nodes
    → named n prefix + namings_of n (get_or cached_nodes (length prefix) None) ≤ named n cached_nodes
next_fits word form image nodes n prefix cached_nodes w many h found each =
    named-prefix n prefix cached_nodes (omega arith) (λ p below. one_place word (form p) image p (get_or prefix p None) (get_or cached_nodes p None) w (found p below) (each p (omega arith)))

-- a set of free places marks nothing
pub mark-none : (first count n : ℕ) → mark_by first (replicate count false) n ≡ 0
mark-none first count n = elim (cases_lt n first) [
  | inl low ↦ mark-prefix first (replicate count false) n low
  | inr high ↦ mark-back first (replicate count false) n high ∙ ap bit_from (elim (cases_lt (n - first) count) [
    | inl below ↦ get_or-replicate count (n - first) false false below
    | inr past ↦ get_or_past (replicate count false) (n - first) false (omega (arith, length-replicate count false))
  ])
]

-- one more place
pub each_more : (word : Type 0) (form : ℕ → Form) (image : Image) (cached_nodes : List (Option CachedNode)) (cached_node : Option CachedNode) (place : ℕ) → length cached_nodes ≡ place → ((p : ℕ) → p < place → FindsPlace word (form p) image p (get_or cached_nodes p None)) → FindsPlace word (form place) image place cached_node
    → (p : ℕ) → p < place + 1 → FindsPlace word (form p) image p (get_or (cached_nodes ++ cached_node ∷ []) p None)
each_more word form image cached_nodes cached_node place long each found p h = elim (cases_lt p place) [
  | inl low ↦ subst (FindsPlace word (form p) image p) (sym (get_or_append_left cached_nodes (cached_node ∷ []) None p (omega arith))) (each p low)
  | inr high ↦
      let e : p ≡ place = omega arith in
      let is : get_or (cached_nodes ++ cached_node ∷ []) p None ≡ cached_node = ap (λ (k : ℕ). get_or (cached_nodes ++ cached_node ∷ []) k None) (e ∙ sym long) ∙ get_or-append_seam cached_nodes cached_node [] None in
      subst (FindsPlace word (form p) image p) (sym is) (subst (λ (k : ℕ). FindsPlace word (form k) image k cached_node) (sym e) found)
]

-- Numbers

pub numbers-take : (cached_nodes : List (Option CachedNode)) (p : ℕ) → p < length cached_nodes → numbers_of (take (p + 1) cached_nodes) ≡ numbers_of (take p cached_nodes) ++ numbers_of (get_or cached_nodes p None ∷ [])
numbers-take cached_nodes p h = let e : p + 1 ≡ suc p = omega arith in ap (λ (k : ℕ). numbers_of (take k cached_nodes)) e ∙ step cached_nodes p h
  where
    step : (cached_nodes : List (Option CachedNode)) (p : ℕ) → p < length cached_nodes → numbers_of (take (suc p) cached_nodes) ≡ numbers_of (take p cached_nodes) ++ numbers_of (get_or cached_nodes p None ∷ [])
    step [] p h = absurd (omega arith)
    step (None ∷ cached_nodes) zero h = refl
    step (Some cached_node ∷ cached_nodes) zero h = refl
    step (None ∷ cached_nodes) (suc p) h = step cached_nodes p (omega arith)
    step (Some cached_node ∷ cached_nodes) (suc p) h = ap (λ (l : List ℕ). cached_node.fields.number ∷ l) (step cached_nodes p (omega arith))

same_number : (a b : CachedNode) → (let one : Option CachedNode = Some a in one ≡ Some b) → a.fields.number ≡ b.fields.number
same_number a b e = let same : a ≡ b = cc in ap (λ (cached_node : CachedNode). cached_node.fields.number) same

number-at : (n : ℕ) (cached_nodes : List (Option CachedNode)) (i : ℕ) (cached_node : CachedNode) → get_or cached_nodes i None ≡ Some cached_node → cached_node.fields.number ≡ n → 1 ≤ times n (numbers_of cached_nodes)
number-at n [] i cached_node is same = absurd (none-some cached_node is)
number-at n (None ∷ cached_nodes) zero cached_node is same = absurd (none-some cached_node is)
number-at n (None ∷ cached_nodes) (suc i) cached_node is same = number-at n cached_nodes i cached_node is same
number-at n (Some one ∷ cached_nodes) zero cached_node is same =
    let here : once_if (eqb n one.fields.number) ≡ 1 = rw (eq-eqb n one.fields.number (sym same ∙ sym (same_number one cached_node is))) refl in omega arith
number-at n (Some one ∷ cached_nodes) (suc i) cached_node is same = omega (arith, number-at n cached_nodes i cached_node is same)

number-twice : (n : ℕ) (cached_nodes : List (Option CachedNode)) (i j : ℕ) (a b : CachedNode) → i < j → get_or cached_nodes i None ≡ Some a → get_or cached_nodes j None ≡ Some b → a.fields.number ≡ n → b.fields.number ≡ n → 2 ≤ times n (numbers_of cached_nodes)
number-twice n [] i j a b before first second x y = absurd (none-some a first)
number-twice n (cached_node ∷ cached_nodes) i zero a b before first second x y = absurd (omega arith)
number-twice n (None ∷ cached_nodes) zero (suc j) a b before first second x y = absurd (none-some a first)
number-twice n (Some one ∷ cached_nodes) zero (suc j) a b before first second x y =
    let here : once_if (eqb n one.fields.number) ≡ 1 = rw (eq-eqb n one.fields.number (sym x ∙ sym (same_number one a first))) refl in omega (arith, number-at n cached_nodes j b second y)
number-twice n (None ∷ cached_nodes) (suc i) (suc j) a b before first second x y = number-twice n cached_nodes i j a b (omega arith) first second x y
number-twice n (Some one ∷ cached_nodes) (suc i) (suc j) a b before first second x y = omega (arith, number-twice n cached_nodes i j a b (omega arith) first second x y)

number-of : (n : ℕ) (cached_nodes : List (Option CachedNode)) → 0 < times n (numbers_of cached_nodes) → (i : ℕ) × ((cached_node : CachedNode) × ((get_or cached_nodes i None ≡ Some cached_node) × (cached_node.fields.number ≡ n)))
number-of n [] some = absurd (omega arith)
number-of n (None ∷ cached_nodes) some = let found = number-of n cached_nodes some in (suc found.0, found.1)
number-of n (Some one ∷ cached_nodes) some = elim (cases_eq n one.fields.number) [
  | inl same ↦ (0, (one, (refl, sym same)))
  | inr off ↦
      let none : once_if (eqb n one.fields.number) ≡ 0 = rw (ne_eqb n one.fields.number off) refl in
      let found = number-of n cached_nodes (omega arith) in
      (suc found.0, found.1)
]

pub once_numbered : (cached_nodes : List (Option CachedNode)) → ((n : ℕ) → times n (numbers_of cached_nodes) ≤ 1) → AreNumbered cached_nodes
once_numbered cached_nodes once i j a b off first second same = elim (cases_lt i j) [
  | inl before ↦ absurd (omega (arith, once b.fields.number, number-twice b.fields.number cached_nodes i j a b before first second same refl))
  | inr after ↦ absurd (let less = less-of i j off after in omega (arith, once b.fields.number, number-twice b.fields.number cached_nodes j i b a less second first refl same))
]
  where
    less-of : (i j : ℕ) → i ≢ j → j ≤ i → j < i
    less-of i j off le = omega arith

pub numbered_once : (cached_nodes : List (Option CachedNode)) → AreNumbered cached_nodes → (n : ℕ) → times n (numbers_of cached_nodes) ≤ 1
numbered_once [] apart n = omega arith
numbered_once (None ∷ cached_nodes) apart n = numbered_once cached_nodes (λ i j a b off first second. apart (suc i) (suc j) a b (λ e. off (omega arith)) first second) n
numbered_once (Some one ∷ cached_nodes) apart n = elim (cases_eq n one.fields.number) [
  | inl same ↦ elim (cases_eq (times n (numbers_of cached_nodes)) 0) [
    | inl none ↦ let here : once_if (eqb n one.fields.number) ≡ 1 = rw (eq-eqb n one.fields.number same) refl in omega arith
    | inr some ↦
        let found = number-of n cached_nodes (omega arith) in
        absurd (apart 0 (suc found.0) one found.1.0 (λ e. absurd (omega arith)) refl found.1.1.0 (sym same ∙ sym found.1.1.1))
  ]
  | inr off ↦
      let none : once_if (eqb n one.fields.number) ≡ 0 = rw (ne_eqb n one.fields.number off) refl in
      omega (arith, numbered_once cached_nodes (λ i j a b apart_is first second. apart (suc i) (suc j) a b (λ e. apart_is (omega arith)) first second) n)
]
