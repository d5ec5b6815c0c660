-- One cached node changes.
use Rattle.std.proofs.Common.{◌≡◌, ◌≢◌, ◌≤◌, ◌<◌, ◌+◌, ℕ, zero, suc, List, [], ◌∷◌, Option, Some, None, length, get_or, set, refl, sym, ap, ap₂, ◌∙◌, arith, inl, inr, subst}
use Rattle.std.proofs.lemmas.Bool.{cases_eq, cases_lt}
use Rattle.std.proofs.lemmas.List.{length-set, get_or-set_same, get_or-set_other, set-get_or, get_or_past}
use Rattle.std.proofs.lemmas.Option.{same_Some, none-some}
use Rattle.disk.specs.Moments.{Image}
use Rattle.model_tree.specs.Trees.Keyed.{at, with, without, IsAbove}
use Rattle.model_tree.proofs.Trees.KeyedLaws.{at-with_other, IsAbove-with}
use Rattle.model_tree.specs.Trees.Tree.{Tree, Node}
use Rattle.layout.specs.CachedNodes.{CachedNode, node_sector, node_of, tree_of}
use Rattle.layout.specs.ChangeLaws.{tree_with, IsOwnNumber, IsSameNumber, ChangesCached, OneChange}
use Rattle.layout.specs.Laid.{HoldsPlace, AreNumbered, AreLaid}
use Rattle.layout.specs.Marks.{namings_of, named}
use Rattle.layout.proofs.Frame.{node-kept, held-still}
use Rattle.model_tree.proofs.Trees.KeyedLaws.{with-with_same, with-with_other}
use Rattle.model_tree.proofs.Trees.KeyedChanges.{without-with_other, without-with_fresh}

-- How often cached nodes name a sector

pub named-at : (n : ℕ) (cached_nodes : List (Option CachedNode)) (i : ℕ) → namings_of n (get_or cached_nodes i None) ≤ named n cached_nodes
unfolding namings_of
named-at n [] i = omega arith
named-at n (cached ∷ cached_nodes) zero = omega arith
named-at n (cached ∷ cached_nodes) (suc i) = omega (arith, named-at n cached_nodes i)

named-two : (n : ℕ) (cached_nodes : List (Option CachedNode)) (i j : ℕ) → i ≢ j → namings_of n (get_or cached_nodes i None) + namings_of n (get_or cached_nodes j None) ≤ named n cached_nodes
unfolding namings_of
named-two n [] i j apart = omega arith
named-two n (cached ∷ cached_nodes) zero zero apart = absurd (apart refl)
named-two n (cached ∷ cached_nodes) zero (suc j) apart = omega (arith, named-at n cached_nodes j)
named-two n (cached ∷ cached_nodes) (suc i) zero apart = omega (arith, named-at n cached_nodes i)
named-two n (cached ∷ cached_nodes) (suc i) (suc j) apart = omega (arith, named-two n cached_nodes i j (omega arith))

pub named-set : (n : ℕ) (cached_nodes : List (Option CachedNode)) (i : ℕ) (cached : Option CachedNode) → i < length cached_nodes → named n (set cached_nodes i cached) + namings_of n (get_or cached_nodes i None) ≡ named n cached_nodes + namings_of n cached
named-set n [] i cached h = absurd (omega arith)
named-set n (other ∷ cached_nodes) zero cached h = omega arith
named-set n (other ∷ cached_nodes) (suc i) cached h = omega (arith, named-set n cached_nodes i cached (omega arith))

-- The tree

abbrev pub AreAbove : List (Option CachedNode) → Type 0
AreAbove cached_nodes = (i : ℕ) (cached : CachedNode) → get_or cached_nodes i None ≡ Some cached
    → 0 < cached.fields.number

pub tree-above : (image : Image) (cached_nodes : List (Option CachedNode)) → AreAbove cached_nodes → IsAbove 0 (tree_of image cached_nodes)
tree-above image [] above = tt
tree-above image (None ∷ cached_nodes) above = tree-above image cached_nodes (λ i cached e. above (suc i) cached e)
tree-above image (Some one ∷ cached_nodes) above =
    IsAbove-with (tree_of image cached_nodes) one.fields.number 0 (node_of image one) (tree-above image cached_nodes (λ i cached e. above (suc i) cached e)) (above 0 one refl)

pub tree-lacks : (image : Image) (cached_nodes : List (Option CachedNode)) (n : ℕ) → ((i : ℕ) (cached : CachedNode) → get_or cached_nodes i None ≡ Some cached → cached.fields.number ≢ n) → at n (tree_of image cached_nodes) ≡ None
tree-lacks image [] n off = refl
tree-lacks image (None ∷ cached_nodes) n off = tree-lacks image cached_nodes n (λ i cached e. off (suc i) cached e)
tree-lacks image (Some one ∷ cached_nodes) n off =
    at-with_other (tree_of image cached_nodes) one.fields.number n (node_of image one) (λ e. off 0 one refl (sym e)) ∙ tree-lacks image cached_nodes n (λ i cached e. off (suc i) cached e)

low : (n m : ℕ) {bound : ℕ} → (0 < m → bound ≤ n) → n < bound → m ≡ 0
low n m reach h = elim (cases_eq m 0) [
  | inl none ↦ none
  | inr some ↦ absurd (let far = reach (omega arith) in omega arith)
]

module _ (old new : Image) where
  keeps_all : (cached_nodes : List (Option CachedNode)) (place : ℕ) → get_or cached_nodes place None ≡ None → ((i : ℕ) (cached : CachedNode) → i ≢ place → get_or cached_nodes i None ≡ Some cached → node_of new cached ≡ node_of old cached)
      → (i : ℕ) (cached : CachedNode) → get_or cached_nodes i None ≡ Some cached → node_of new cached ≡ node_of old cached
  keeps_all cached_nodes place none keeps i cached there = elim (cases_eq i place) [
    | inl one ↦ absurd (none-some cached (sym none ∙ ap (λ (k : ℕ). get_or cached_nodes k None) (sym one) ∙ there))
    | inr off ↦ keeps i cached off there
  ]

  abbrev Keeps : List (Option CachedNode) → Type 0
  Keeps cached_nodes = (i : ℕ) (cached : CachedNode) → get_or cached_nodes i None ≡ Some cached → node_of new cached ≡ node_of old cached

  abbrev pub KeepsOthers : List (Option CachedNode) → ℕ → Type 0
  KeepsOthers cached_nodes place = (i : ℕ) (cached : CachedNode) → i ≢ place → get_or cached_nodes i None ≡ Some cached → node_of new cached ≡ node_of old cached

  pub tree-kept : (cached_nodes : List (Option CachedNode)) → Keeps cached_nodes
      → tree_of new cached_nodes ≡ tree_of old cached_nodes
  tree-kept [] keeps = refl
  tree-kept (None ∷ cached_nodes) keeps = tree-kept cached_nodes (λ i cached is. keeps (suc i) cached is)
  tree-kept (Some one ∷ cached_nodes) keeps =
      ap₂ (λ (tree : Tree) (node : Node). with tree one.fields.number node) (tree-kept cached_nodes (λ i cached is. keeps (suc i) cached is)) (keeps 0 one refl)

  -- a cached node in place of another of its number, or of none
  pub tree-put : (cached_nodes : List (Option CachedNode)) (place : ℕ) (is : CachedNode) → place < length cached_nodes → KeepsOthers cached_nodes place → IsSameNumber (get_or cached_nodes place None) (Some is) → IsOwnNumber cached_nodes place (Some is)
      → tree_of new (set cached_nodes place (Some is)) ≡ with (tree_of old cached_nodes) is.fields.number (node_of new is)
  tree-put [] place is h keeps same own = absurd (omega arith)
  tree-put (None ∷ cached_nodes) zero is h keeps same own =
      ap (λ (tree : Tree). with tree is.fields.number (node_of new is)) (tree-kept cached_nodes (λ i cached e. keeps (suc i) cached (omega arith) e))
  tree-put (Some one ∷ cached_nodes) zero is h keeps same own =
      ap (λ (tree : Tree). with tree is.fields.number (node_of new is)) (tree-kept cached_nodes (λ i cached e. keeps (suc i) cached (omega arith) e))
      ∙ sym (with-with_same (tree_of old cached_nodes) is.fields.number (node_of old one) (node_of new is))
      ∙ ap (λ (n : ℕ). with (with (tree_of old cached_nodes) n (node_of old one)) is.fields.number (node_of new is)) same
  tree-put (None ∷ cached_nodes) (suc place) is h keeps same own =
      tree-put cached_nodes place is (omega arith) (λ i cached apart e. keeps (suc i) cached (omega arith) e) same (λ i other apart e. own (suc i) other (omega arith) e)
  tree-put (Some one ∷ cached_nodes) (suc place) is h keeps same own =
      ap₂ (λ (tree : Tree) (node : Node). with tree one.fields.number node)
      (tree-put cached_nodes place is (omega arith) (λ i cached apart e. keeps (suc i) cached (omega arith) e) same (λ i other apart e. own (suc i) other (omega arith) e)) (keeps 0 one (omega arith) refl)
      ∙ with-with_other (tree_of old cached_nodes) is.fields.number one.fields.number (node_of new is) (node_of old one) (λ e. own 0 one (omega arith) refl (sym e))

  -- no cached node in place of one
  pub tree-drop : (cached_nodes : List (Option CachedNode)) (place : ℕ) (was : CachedNode) → get_or cached_nodes place None ≡ Some was → KeepsOthers cached_nodes place → AreAbove cached_nodes → IsOwnNumber cached_nodes place (Some was)
      → tree_of new (set cached_nodes place None) ≡ without (tree_of old cached_nodes) was.fields.number
  tree-drop [] place was there keeps above own = absurd (none-some was there)
  tree-drop (None ∷ cached_nodes) zero was there keeps above own = absurd (none-some was there)
  tree-drop (Some one ∷ cached_nodes) zero was there keeps above own =
      let same : was ≡ one = same_Some was one (sym there) in
      tree-kept cached_nodes (λ i cached e. keeps (suc i) cached (omega arith) e)
      ∙ sym (without-with_fresh (tree_of old cached_nodes) one.fields.number (node_of old one) (tree-above old cached_nodes (λ i cached e. above (suc i) cached e)) (above 0 one refl)
      (tree-lacks old cached_nodes one.fields.number (λ i cached e f. own (suc i) cached (omega arith) e (f ∙ ap (λ (c : CachedNode). c.fields.number) (sym same)))))
      ∙ ap (λ (c : CachedNode). without (with (tree_of old cached_nodes) one.fields.number (node_of old one)) c.fields.number) (sym same)
  tree-drop (None ∷ cached_nodes) (suc place) was there keeps above own =
      tree-drop cached_nodes place was there (λ i cached apart e. keeps (suc i) cached (omega arith) e) (λ i cached e. above (suc i) cached e) (λ i other apart e. own (suc i) other (omega arith) e)
  tree-drop (Some one ∷ cached_nodes) (suc place) was there keeps above own =
      ap₂ (λ (tree : Tree) (node : Node). with tree one.fields.number node)
      (tree-drop cached_nodes place was there (λ i cached apart e. keeps (suc i) cached (omega arith) e) (λ i cached e. above (suc i) cached e) (λ i other apart e. own (suc i) other (omega arith) e))
      (keeps 0 one (omega arith) refl)
      ∙ sym (without-with_other (tree_of old cached_nodes) one.fields.number was.fields.number (node_of old one) (tree-above old cached_nodes (λ i cached e. above (suc i) cached e)) (above 0 one refl) (own 0 one (omega arith) refl))

  -- the tree, whatever the change
  tree-change : (cached_nodes : List (Option CachedNode)) (place : ℕ) (was is : Option CachedNode) → get_or cached_nodes place None ≡ was → place < length cached_nodes → KeepsOthers cached_nodes place → AreAbove cached_nodes → AreNumbered cached_nodes
      → IsSameNumber was is → IsOwnNumber cached_nodes place is → tree_of new (set cached_nodes place is) ≡ tree_with new (tree_of old cached_nodes) was is
  tree-change cached_nodes place was (Some cached) there h keeps above apart same own = tree-put cached_nodes place cached h keeps (rw there same) own
  tree-change cached_nodes place None None there h keeps above apart same own = ap (tree_of new) (ap (set cached_nodes place) (sym there) ∙ set-get_or cached_nodes place None) ∙ tree-kept cached_nodes (keeps_all cached_nodes place there keeps)
  tree-change cached_nodes place (Some cached) None there h keeps above apart same own = tree-drop cached_nodes place cached there keeps above (λ i other off e. apart i place other cached off e there)

module _ (nodes : ℕ) (old new : Image) (marked mark : ℕ → ℕ) (cached_nodes : List (Option CachedNode)) (place : ℕ) (is : Option CachedNode) (h : place < nodes) (laid : AreLaid nodes old marked cached_nodes) (changes : ChangesCached nodes old new marked mark place (get_or cached_nodes place None) is) where
  -- what another cached node names is kept
  kept_here : (p n : ℕ) → p ≢ place → 0 < namings_of n (get_or cached_nodes p None) → new n ≡ old n
  kept_here p n apart some =
      let both = named-two n cached_nodes p place apart in
      let sum = laid.marks n in
      let few = laid.once n in
      let moved = changes.own.marks n in
      let most = changes.own.once n in
      let far : 148 + nodes ≤ n = laid.behind n (omega arith) in
      changes.own.others n (omega arith) (omega arith) (omega arith) (omega arith)

  node_kept : (p : ℕ) → p < nodes → p ≢ place → new (node_sector p) ≡ old (node_sector p)
  node_kept p in_ apart =
      let n = 148 + p in
      let unmarked : marked n ≡ 0 = low n (marked n) (laid.behind n) (omega arith) in
      let unmarked_now : mark n ≡ 0 = low n (mark n) (changes.own.behind n) (omega arith) in
      let sum = laid.marks n in
      let part = named-at n cached_nodes place in
      let moved = changes.own.marks n in
      changes.own.others n (omega arith) (omega arith) (omega arith) (omega arith)

  held_there : (p : ℕ) (cached : Option CachedNode) → p < nodes → p ≢ place → get_or cached_nodes p None ≡ cached → HoldsPlace old p cached → HoldsPlace new p cached
  held_there p None in_ apart there holds = node_kept p in_ apart ∙ holds
  held_there p (Some cached) in_ apart there holds =
      held-still old new cached (λ n some. kept_here p n apart (rw there some)) p (node_kept p in_ apart) holds

  held_all : (p : ℕ) → p < nodes → HoldsPlace new p (get_or (set cached_nodes place is) p None)
  held_all p in_ = elim (cases_eq p place) [
    | inl one ↦
        let there : get_or (set cached_nodes place is) p None ≡ is = ap (λ (k : ℕ). get_or (set cached_nodes place is) k None) one ∙ get_or-set_same cached_nodes place is None (omega (arith, laid.count)) in
        rw (there, one) changes.held
    | inr apart ↦ rw (get_or-set_other cached_nodes place p is None apart) (held_there p (get_or cached_nodes p None) in_ apart refl (laid.held p in_))
  ]

  keeps_others : (i : ℕ) (cached : CachedNode) → i ≢ place → get_or cached_nodes i None ≡ Some cached → node_of new cached ≡ node_of old cached
  keeps_others i cached apart there = node-kept old new cached (λ n some. kept_here i n apart (rw there some))

  marks_now : (n : ℕ) → named n (set cached_nodes place is) ≡ mark n
  marks_now n = omega (arith, named-set n cached_nodes place is (omega (arith, laid.count)), laid.marks n, changes.own.marks n)

pub above_held : (nodes : ℕ) (image : Image) (mark : ℕ → ℕ) (cached_nodes : List (Option CachedNode)) → AreLaid nodes image mark cached_nodes → (i : ℕ) (cached : CachedNode) → get_or cached_nodes i None ≡ Some cached → 0 < cached.fields.number
above_held nodes image mark cached_nodes laid i cached there = elim (cases_lt i nodes) [
  | inl low ↦ let holds : HoldsPlace image i (Some cached) = subst (HoldsPlace image i) there (laid.held i low) in holds.node.number
  | inr high ↦ absurd (none-some cached (sym (get_or_past cached_nodes i None (omega (arith, laid.count))) ∙ there))
]

module _ (cached_nodes : List (Option CachedNode)) (place : ℕ) (is : Option CachedNode) (h : place < length cached_nodes) (own : IsOwnNumber cached_nodes place is) where
  there_now : (i : ℕ) (a : CachedNode) → i ≡ place → get_or (set cached_nodes place is) i None ≡ Some a → is ≡ Some a
  there_now i a one e = sym (get_or-set_same cached_nodes place is None h) ∙ ap (λ (k : ℕ). get_or (set cached_nodes place is) k None) (sym one) ∙ e

  other_now : (j : ℕ) (b : CachedNode) → j ≢ place → get_or (set cached_nodes place is) j None ≡ Some b → get_or cached_nodes j None ≡ Some b
  other_now j b off e = sym (get_or-set_other cached_nodes place j is None off) ∙ e

  own_apart : (a : CachedNode) (j : ℕ) (b : CachedNode) → is ≡ Some a → j ≢ place → get_or (set cached_nodes place is) j None ≡ Some b → b.fields.number ≢ a.fields.number
  own_apart a j b is_a off e = let own_a : IsOwnNumber cached_nodes place (Some a) = subst (IsOwnNumber cached_nodes place) is_a own in own_a j b off (other_now j b off e)

  pub apart_now : AreNumbered cached_nodes → AreNumbered (set cached_nodes place is)
  apart_now apart i j a b off at_i at_j same = elim (cases_eq i place) [
    | inl one ↦ own_apart a j b (there_now i a one at_i) (λ e. off (one ∙ sym e)) at_j (sym same)
    | inr far ↦ elim (cases_eq j place) [
      | inl two ↦ own_apart b i a (there_now j b two at_j) far at_i same
      | inr away ↦ apart i j a b off (other_now i a far at_i) (other_now j b away at_j) same
    ]
  ]

pub one_change : OneChange
one_change nodes old new marked mark cached_nodes place is h laid own changes = record {
  laid = record {
    count = length-set cached_nodes place is ∙ laid.count;
    held = held_all nodes old new marked mark cached_nodes place is h laid changes;
    apart = apart_now cached_nodes place is (omega (arith, laid.count)) own laid.apart;
    marks = marks_now nodes old new marked mark cached_nodes place is h laid changes;
    behind = changes.own.behind;
    once = changes.own.once;
  };
  tree_is = tree-change old new cached_nodes place (get_or cached_nodes place None) is refl (omega (arith, laid.count)) (keeps_others nodes old new marked mark cached_nodes place is h laid changes) (above_held nodes old marked cached_nodes laid) laid.apart changes.number own;
}
