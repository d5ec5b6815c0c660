-- What is known of cached nodes without their sectors.
use Rattle.std.proofs.Common.{◌≡◌, ◌<◌, ℕ, List, Option, Some, None, get_or, set, sym, ap, ◌∙◌, arith, inl, inr, subst}
use Rattle.std.proofs.lemmas.Bool.{cases_eq, cases_lt}
use Rattle.std.proofs.lemmas.List.{length-set, get_or_past, get_or-set_same, get_or-set_other}
use Rattle.std.proofs.lemmas.Option.{none-some}
use Rattle.disk.specs.Moments.{Image}
use Rattle.model_tree.specs.declared.node.NodeKind.{NodeKind}
use Rattle.model_tree.specs.declared.node.NodeKind.TheVariants as kind
use Rattle.layout.specs.CachedNodes.{CachedNode}
use Rattle.layout.specs.Known.{HasContent, IsCached, IsNodePlace, AreCached, MovesMarks, LaidAreCachedNodes, OneCachedChange}
use Rattle.layout.specs.Laid.{HoldsContent, HoldsPlace}
use Rattle.layout.specs.Marks.{named}
use Rattle.layout.proofs.Changing.{AreAbove, named-set, apart_now}

content_known : (image : Image) (kind : NodeKind) (cached : CachedNode) → HoldsContent image kind cached → HasContent kind cached
content_known image kind.File cached holds = holds.unnamed
content_known image kind.Directory cached holds = record { count = holds.count; names = holds.names; stamped = holds.stamped }

place_known : (image : Image) (place : ℕ) (cached : Option CachedNode) → HoldsPlace image place cached → IsNodePlace cached
place_known image place None holds = tt
place_known image place (Some cached) holds = record {
  fits = holds.node.fits;
  number = holds.node.number;
  each_run = holds.node.each_run;
  run_count = holds.node.run_count;
  runs = holds.node.runs;
  blocks = holds.node.blocks;
  content = content_known image cached.fields.kind cached holds.content;
}

pub laid_are_cached_nodes : LaidAreCachedNodes
laid_are_cached_nodes nodes image mark cached_nodes laid = record {
  count = laid.count;
  each = λ place h. place_known image place (get_or cached_nodes place None) (laid.held place h);
  apart = laid.apart;
  marks = laid.marks;
  behind = laid.behind;
  once = laid.once;
}

-- each cached node of a table is one
abbrev pub AreEach : List (Option CachedNode) → Type 0
AreEach cached_nodes = (i : ℕ) (cached : CachedNode) → get_or cached_nodes i None ≡ Some cached → IsCached cached

pub each_cached : (nodes : ℕ) (mark : ℕ → ℕ) (cached_nodes : List (Option CachedNode)) → AreCached nodes mark cached_nodes → AreEach cached_nodes
each_cached nodes mark cached_nodes known i cached there = elim (cases_lt i nodes) [
  | inl low ↦ subst IsNodePlace there (known.each i low)
  | inr high ↦ absurd (none-some cached (sym (get_or_past cached_nodes i None (omega (arith, known.count))) ∙ there))
]

pub each_above : (cached_nodes : List (Option CachedNode)) → AreEach cached_nodes → AreAbove cached_nodes
each_above cached_nodes each i cached there = let is = each i cached there in is.number

module _ (nodes : ℕ) (marked mark : ℕ → ℕ) (cached_nodes : List (Option CachedNode)) (place : ℕ) (is : Option CachedNode) (h : place < nodes) (old : AreCached nodes marked cached_nodes) (new : IsNodePlace is) (moves : MovesMarks nodes marked mark (get_or cached_nodes place None) is) where
  each_now : (p : ℕ) → p < nodes → IsNodePlace (get_or (set cached_nodes place is) p None)
  each_now p in_ = elim (cases_eq p place) [
    | inl one ↦
        let there : get_or (set cached_nodes place is) p None ≡ is = ap (λ (k : ℕ). get_or (set cached_nodes place is) k None) one ∙ get_or-set_same cached_nodes place is None (omega (arith, old.count)) in
        rw there new
    | inr apart ↦ rw (get_or-set_other cached_nodes place p is None apart) (old.each p in_)
  ]

  marks_now : (n : ℕ) → named n (set cached_nodes place is) ≡ mark n
  marks_now n = omega (arith, named-set n cached_nodes place is (omega (arith, old.count)), old.marks n, moves.marks n)

pub one_cached_change : OneCachedChange
one_cached_change nodes marked mark cached_nodes place is h old own new moves = record {
  count = length-set cached_nodes place is ∙ old.count;
  each = each_now nodes marked mark cached_nodes place is h old new moves;
  apart = apart_now cached_nodes place is (omega (arith, old.count)) own old.apart;
  marks = marks_now nodes marked mark cached_nodes place is h old new moves;
  behind = moves.behind;
  once = moves.once;
}
