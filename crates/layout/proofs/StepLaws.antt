-- Steps on one cached node.
use Rattle.std.proofs.Common.{◌≡◌, ◌≢◌, ◌≤◌, ◌<◌, ◌+◌, ◌-◌, ℕ, zero, suc, List, [], ◌∷◌, ◌++◌, Option, Some, None, length, get_or, set, take, drop, max, replicate, refl, sym, ap, ap₂, ◌∙◌, arith, inl, inr, subst, eqb}
use Rattle.std.proofs.lemmas.Bool.{cases_lt}
use Rattle.std.proofs.lemmas.List.{length-append, ext_get_or, set-get_or}
use Rattle.disk.specs.Moments.{Image}
use Rattle.model_tree.specs.declared.node.NodeKind.{NodeKind}
use Rattle.model_tree.specs.declared.node.NodeKind.TheVariants as kind
use Rattle.model_tree.specs.Trees.Keyed.{Keyed, with}
use Rattle.model_tree.specs.Trees.Tree.{Node, Content, File, Directory, DirEntry}
use Rattle.inode.specs.Fields.{Fields}
use Rattle.std.proofs.lemmas.List.FromFn.{length-map-range_with_len}
use Rattle.directory.specs.Listing.{by_stamp}
use Rattle.layout.specs.CachedNodes.{CachedNode, tree_of, node_of, content_of, content_at, byte_at, bytes_in, node_with}
use Rattle.layout.specs.ChangeLaws.{ChangesCached}
use Rattle.layout.specs.Files.{HoldBytes, over, EachWrite}
use Rattle.layout.specs.Laid.{HoldsCached, HoldsBytes, HoldsContent, HoldsPlace, AreNumbered}
use Rattle.layout.specs.Marks.{once_if, times_set}
use Rattle.layout.specs.Steps.{NodeSteps, LaysTree, FileStep, NamesStep, ShowsSame, SameStep, FileThere, OthersHold, EachOwn, EachChange}
use Rattle.model_tree.specs.Trees.Edit.{overwritten, resized}
use Rattle.layout.proofs.Frame.{times_set-at}
use Rattle.layout.proofs.Changing.{one_change}
use Rattle.layout.proofs.FileLaws.{over-same, overwritten-at, length-overwritten, grown-at, writing_on}
use Rattle.model_tree.proofs.Trees.NodeChangeLaws.{length-resized}

own_number : (cached_nodes : List (Option CachedNode)) (place : ℕ) (was is : CachedNode) → AreNumbered cached_nodes → get_or cached_nodes place None ≡ Some was → is.fields.number ≡ was.fields.number
    → (i : ℕ) (other : CachedNode) → i ≢ place → get_or cached_nodes i None ≡ Some other → other.fields.number ≢ is.fields.number
own_number cached_nodes place was is apart there same i other off at_i e = apart i place other was off at_i there (e ∙ same)

-- a cached node that is held in place of another of its number
pub put-step : (nodes : ℕ) (old new : Image) (marked mark : ℕ → ℕ) (cached_nodes : List (Option CachedNode)) (place : ℕ) (was is : CachedNode) (node : Node) → NodeSteps nodes old new marked mark cached_nodes place was is → HoldsCached new place is → node_of new is ≡ node
    → LaysTree nodes new mark cached_nodes place is (with (tree_of old cached_nodes) is.fields.number node)
put-step nodes old new marked mark cached_nodes place was is node steps held node_is =
    let changes : ChangesCached nodes old new marked mark place (get_or cached_nodes place None) (Some is) =
    rw steps.there (record { held = held; number = steps.number; own = steps.own }) in
    let changed = one_change nodes old new marked mark cached_nodes place (Some is) steps.within steps.laid (own_number cached_nodes place was is steps.laid.apart steps.there steps.number) changes in
    record { laid = changed.laid; tree_is = changed.tree_is ∙ ap (with (tree_of old cached_nodes) is.fields.number) node_is }

node_of-file : (image : Image) (cached : CachedNode) (bytes : List ℕ) → cached.fields.kind ≡ kind.File → cached.fields.size ≡ length bytes → HoldBytes image cached.blocks bytes → node_of image cached ≡ node_with cached.fields (File bytes)
unfolding node_of
node_of-file image cached bytes is long hold =
    ap (λ (k : NodeKind). node_with cached.fields (content_of image k cached)) is
    ∙ ap (λ (n : ℕ). node_with cached.fields (File (bytes_in image cached.blocks n))) long ∙ ap (λ (b : List ℕ). node_with cached.fields (File b)) hold.bytes_are

pub node_of-directory : (image : Image) (cached : CachedNode) → cached.fields.kind ≡ kind.Directory → node_of image cached ≡ node_with cached.fields (Directory (by_stamp cached.names))
unfolding node_of
node_of-directory image cached is = ap (λ (k : NodeKind). node_with cached.fields (content_of image k cached)) is

hold_file : (image : Image) (cached : CachedNode) (bytes : List ℕ) → cached.fields.kind ≡ kind.File → cached.names ≡ [] → cached.fields.size ≡ length bytes → HoldBytes image cached.blocks bytes → HoldsContent image cached.fields.kind cached
hold_file image cached bytes is unnamed long hold =
    let holds : HoldsBytes image cached = record { unnamed = unnamed; tail = λ k h. hold.tail k (omega arith) } in
    subst (λ (k : NodeKind). HoldsContent image k cached) (sym is) holds

pub file_step : FileStep
file_step nodes old new marked mark cached_nodes place was is bytes steps file unnamed long hold =
    put-step nodes old new marked mark cached_nodes place was is (node_with is.fields (File bytes)) steps
    (record { node = steps.node; content = hold_file new is bytes file unnamed long hold }) (node_of-file new is bytes file long hold)

pub names_step : NamesStep
names_step nodes old new marked mark cached_nodes place was is names steps directory holds are =
    put-step nodes old new marked mark cached_nodes place was is (node_with is.fields (Directory names)) steps
    (record { node = steps.node; content = subst (λ (k : NodeKind). HoldsContent new k is) (sym directory) holds })
    (node_of-directory new is directory ∙ ap (λ (n : Keyed DirEntry). node_with is.fields (Directory n)) are)

pub shown : (was is : Fields) (content : Content) → ShowsSame was is → node_with is content ≡ node_with was content
shown was is content same = rw (same.owner, same.group, same.acl, same.change, same.time_modify) refl

-- the node that is already there
same_tree : (nodes : ℕ) (old new : Image) (marked mark : ℕ → ℕ) (cached_nodes : List (Option CachedNode)) (place : ℕ) (was is : CachedNode) (bytes : List ℕ) → NodeSteps nodes old new marked mark cached_nodes place was is → was.fields.kind ≡ kind.File
    → was.fields.size ≡ length bytes → HoldBytes old was.blocks bytes → ShowsSame was.fields is.fields → with (tree_of old cached_nodes) is.fields.number (node_with is.fields (File bytes)) ≡ tree_of old cached_nodes
same_tree nodes old new marked mark cached_nodes place was is bytes steps file long held same =
    let holds : HoldsCached old place was = subst (HoldsPlace old place) steps.there (steps.laid.held place steps.within) in
    let still : NodeSteps nodes old old marked marked cached_nodes place was was = record {
      within = steps.within;
      there = steps.there;
      number = refl;
      laid = steps.laid;
      node = holds.node;
      own = record { others = λ n a b c d. refl; marks = λ n. refl; once = steps.laid.once; behind = steps.laid.behind };
    } in
    let gives = put-step nodes old old marked marked cached_nodes place was was (node_with was.fields (File bytes)) still holds (node_of-file old was bytes file long held) in
    let itself : set cached_nodes place (Some was) ≡ cached_nodes = ap (set cached_nodes place) (sym steps.there) ∙ set-get_or cached_nodes place None in
    ap₂ (with (tree_of old cached_nodes)) steps.number (shown was.fields is.fields (File bytes) same) ∙ sym gives.tree_is ∙ ap (tree_of old) itself

pub same_step : SameStep
same_step nodes old new marked mark cached_nodes place was is bytes steps was_file is_file unnamed was_long is_long held hold same =
    let gives = file_step nodes old new marked mark cached_nodes place was is bytes steps is_file unnamed is_long hold in
    record { laid = gives.laid; tree_is = gives.tree_is ∙ same_tree nodes old new marked mark cached_nodes place was is bytes steps was_file was_long held same }

pub length-bytes_in : (image : Image) (blocks : List (Option ℕ)) (size : ℕ) → length (bytes_in image blocks size) ≡ size
unfolding bytes_in
length-bytes_in image blocks size = length-map-range_with_len (byte_at image blocks) 0 size

pub file_there : FileThere
file_there nodes image mark cached_nodes place cached laid within there file =
    let holds : HoldsPlace image place (Some cached) = subst (HoldsPlace image place) there (laid.held place within) in
    let tail : HoldsBytes image cached = subst (λ (k : NodeKind). HoldsContent image k cached) file holds.content in
    let long = length-bytes_in image cached.blocks cached.fields.size in
    record { bytes_are = ap (bytes_in image cached.blocks) long; tail = λ k h. tail.tail k (omega arith) }

-- ---- blocks

some_none : (x : ℕ) → (let some : Option ℕ = Some x in some ≡ None) → ⊥
some_none x e = cc

content-kept-at : (old new : Image) (blocks : List (Option ℕ)) (block : Option ℕ) (i : ℕ) → get_or blocks i None ≡ block → ((n : ℕ) → get_or blocks i None ≡ Some n → new n ≡ old n) → content_at new block ≡ content_at old block
content-kept-at old new blocks None i is same = refl
content-kept-at old new blocks (Some n) i is same = same n is

times_set-two : (n : ℕ) (blocks : List (Option ℕ)) (i j : ℕ) → i < j → get_or blocks i None ≡ Some n → get_or blocks j None ≡ Some n → 1 < times_set n blocks
times_set-two n [] i j low a b = absurd (some_none n (sym a))
times_set-two n (None ∷ blocks) zero j low a b = absurd (some_none n (sym a))
times_set-two n (Some s ∷ blocks) zero zero low a b = absurd (omega arith)
times_set-two n (Some s ∷ blocks) zero (suc j) low a b = omega (arith, times_set-at (Some s ∷ []) 0 n a, times_set-at blocks j n b)
times_set-two n (None ∷ blocks) (suc i) zero low a b = absurd (omega arith)
times_set-two n (Some s ∷ blocks) (suc i) zero low a b = absurd (omega arith)
times_set-two n (None ∷ blocks) (suc i) (suc j) low a b = times_set-two n blocks i j (omega arith) a b
times_set-two n (Some s ∷ blocks) (suc i) (suc j) low a b = omega (arith, times_set-two n blocks i j (omega arith) a b)

pub each_own : EachOwn
each_own blocks sector = record {
  unnamed = λ none i is. absurd (let some = times_set-at blocks i sector is in omega arith);
  once = λ few block there i off is. elim (cases_lt i block) [
    | inl low ↦ absurd (let two = times_set-two sector blocks i block low is there in omega arith)
    | inr high ↦ absurd (let two = times_set-two sector blocks block i (omega arith) there is in omega arith)
  ];
}

pub others_hold : OthersHold
others_hold old new blocks block sector same elsewhere i off = content-kept-at old new blocks (get_or blocks i None) i refl (λ n is. same n (λ e. elsewhere i off (is ∙ ap (λ (s : ℕ). Some s) e)) (times_set-at blocks i n is))

times_set-set : (n : ℕ) (blocks : List (Option ℕ)) (block sector : ℕ) → block < length blocks → get_or blocks block None ≡ None → times_set n (set blocks block (Some sector)) ≡ times_set n blocks + once_if (eqb n sector)
times_set-set n [] block sector h hole = absurd (omega arith)
times_set-set n (None ∷ blocks) zero sector h hole = omega arith
times_set-set n (Some s ∷ blocks) zero sector h hole = absurd (some_none s hole)
times_set-set n (None ∷ blocks) (suc i) sector h hole = times_set-set n blocks i sector (omega arith) hole
times_set-set n (Some s ∷ blocks) (suc i) sector h hole = omega (arith, times_set-set n blocks i sector (omega arith) hole)

times_set-cut : (n : ℕ) (blocks : List (Option ℕ)) (count : ℕ) → times_set n (take count blocks) + times_set n (drop count blocks) ≡ times_set n blocks
times_set-cut n blocks zero = omega arith
times_set-cut n [] (suc count) = refl
times_set-cut n (None ∷ blocks) (suc count) = times_set-cut n blocks count
times_set-cut n (Some s ∷ blocks) (suc count) = omega (arith, times_set-cut n blocks count)

times_set-append : (n : ℕ) (a b : List (Option ℕ)) → times_set n (a ++ b) ≡ times_set n a + times_set n b
times_set-append n [] b = omega arith
times_set-append n (None ∷ a) b = times_set-append n a b
times_set-append n (Some s ∷ a) b = omega (arith, times_set-append n a b)

times_set-holes : (n count : ℕ) → times_set n (replicate count None) ≡ 0
times_set-holes n zero = refl
times_set-holes n (suc count) = times_set-holes n count

pub each_change : EachChange
each_change n blocks = record {
  filled = times_set-set n blocks;
  cut = times_set-cut n blocks;
  grown = λ count. omega (arith, times_set-append n blocks (replicate (count - length blocks) None), times_set-holes n (count - length blocks));
}

pub written_on : (bytes : List ℕ) (offset : ℕ) (prefix part : List ℕ) → overwritten (overwritten bytes offset prefix) (offset + length prefix) part ≡ overwritten bytes offset (prefix ++ part)
written_on bytes offset prefix part =
    ext_get_or 0 (overwritten (overwritten bytes offset prefix) (offset + length prefix) part) (overwritten bytes offset (prefix ++ part))
    (omega (arith, length-overwritten (overwritten bytes offset prefix) (offset + length prefix) part, length-overwritten bytes offset prefix, length-overwritten bytes offset (prefix ++ part), length-append prefix part))
    (λ k h.
    overwritten-at (overwritten bytes offset prefix) (offset + length prefix) part k
    ∙ over-same (λ j. get_or (overwritten bytes offset prefix) j 0) (over (λ j. get_or bytes j 0) offset prefix) (offset + length prefix) part k (overwritten-at bytes offset prefix k)
    ∙ writing_on (λ j. get_or bytes j 0) offset prefix part k ∙ sym (overwritten-at bytes offset (prefix ++ part) k))

pub written_grown : (bytes : List ℕ) (offset : ℕ) (part : List ℕ) (size : ℕ) → length bytes ≤ size → size ≤ max (length bytes) (offset + length part)
    → overwritten (resized bytes size) offset part ≡ overwritten bytes offset part
written_grown bytes offset part size longer within =
    ext_get_or 0 (overwritten (resized bytes size) offset part) (overwritten bytes offset part)
    (omega (arith, length-overwritten (resized bytes size) offset part, length-resized bytes size, length-overwritten bytes offset part))
    (λ k h.
    overwritten-at (resized bytes size) offset part k
    ∙ over-same (λ j. get_or (resized bytes size) j 0) (λ j. get_or bytes j 0) offset part k (grown-at bytes size k (omega arith)) ∙ sym (overwritten-at bytes offset part k))

pub each_write : EachWrite
each_write bytes offset = record { on = written_on bytes offset; grown = written_grown bytes offset }
