-- Nodes that are allowed are nodes of a tree that the limits allow.
use Rattle.std.proofs.Common.{zero, All, ◌+◌, ◌≡◌, ◌≢◌, ◌≤◌, ◌<◌, ◌↔◌, ℕ, suc, true, List, [], ◌∷◌, Option, Some, None, length, get_or, refl, sym, ap, subst, ◌∙◌, arith, inl, inr, eq-eqb, ne_eqb, bytes_eq, IsTrue, true≢false}
use Rattle.std.proofs.lemmas.Bool.{cases_eq, cases_Bool}
use Rattle.std.proofs.lemmas.List.FromFn.{length-map-range_with_len}
use Rattle.std.proofs.lemmas.Slice.Eq.{bytes_eq-Decides}
use Rattle.std.specs.List.{AllByRecursion}
use Rattle.disk.specs.Moments.{Image}
use Rattle.model_tree.specs.declared.limits.Limits.{Limits}
use Rattle.model_tree.specs.declared.node.NodeKind.{NodeKind}
use Rattle.model_tree.specs.declared.node.NodeKind.TheVariants as kind
use Rattle.model_tree.specs.Rights.Acl.{is_list_for}
use Rattle.model_tree.specs.Trees.Keyed.{at, here_or}
use Rattle.model_tree.specs.Trees.Tree.{Tree, Node, DirEntry, names_of, root, kind_of, is_directory, is_directory_node, is_directory_at}
use Rattle.model_tree.specs.Trees.WellFormed.{one_if, times_named, AreNames, IsContent, IsNode}
use Rattle.model_tree.proofs.Trees.KeyedParts.{total-ones}
use Rattle.directory.specs.Listing.{by_stamp}
use Rattle.directory.specs.Records.{Record, name_of, NamesApart, NamesStamped}
use Rattle.directory.proofs.ByStamp.{at-by_stamp}
use Rattle.layout.specs.CachedNodes.{CachedNode, tree_of, node_of, content_of, bytes_in, byte_at}
use Rattle.layout.specs.Known.{HasContent, AreCached}
use Rattle.layout.specs.Marks.{times, times_set, namings_of}
use Rattle.layout.proofs.Answering.{tree_answers}
use Rattle.layout.proofs.Changing.{named-at, tree-above}
use Rattle.layout.proofs.ChargeLaws.{above_by_stamp}
use Rattle.layout.proofs.Frame.{bytes-kept}
use Rattle.layout.proofs.Knowing.{each_above, laid_are_cached_nodes}
use Rattle.layout.proofs.Linking.{bytes_fit}
use Rattle.layout.proofs.Summing.{names_total}
use Rattle.tree_check.specs.Nodes.{IsNameAllowed, AreNamesAllowed, IsContentAllowed, IsNodeAllowed, HasRootDirectory, AreNodesAllowed}
use Rattle.tree_check.specs.ShapeLaws.{HoldBytes, HasAllowedNodes, EachNode}
use Rattle.tree_check.proofs.AgeLaws.{node-is, none-node}
use Rattle.tree_check.proofs.FitLaws.{few-at, few-from}
use Rattle.tree_check.proofs.TreeLaws.{There, Nowhere, at-stamp, find, is_cached}

-- Names

-- a name that occurs nowhere, and one that occurs once

none-named : (name : List ℕ) (names : List Record) → ((i : ℕ) (d : Record) → i < length names → name_of (get_or names i d) ≢ name) → times_named name names ≡ 0
none-named name [] none = refl
none-named name (x ∷ names) none = elim (cases_Bool (bytes_eq name x.1.name)) [
  | inl is ↦ absurd (none 0 x (omega arith) (sym ((bytes_eq-Decides name x.1.name).0 is)))
  | inr off ↦
      let nothing : one_if (bytes_eq name x.1.name) ≡ 0 = ap one_if off in
      omega (arith, nothing, none-named name names (λ i d h. none (suc i) d (omega arith)))
]

once-named : (name : List ℕ) (names : List Record) → NamesApart names → times_named name names ≤ 1
once-named name [] apart = omega arith
once-named name (x ∷ names) apart = elim (cases_Bool (bytes_eq name x.1.name)) [
  | inl is ↦
      let one : one_if (bytes_eq name x.1.name) ≡ 1 = ap one_if is in
      let same : name ≡ x.1.name = (bytes_eq-Decides name x.1.name).0 is in
      omega (arith, one, none-named name names (λ i d h e. apart 0 (suc i) d (omega arith) (omega arith) (sym same ∙ sym e)))
  | inr off ↦
      let nothing : one_if (bytes_eq name x.1.name) ≡ 0 = ap one_if off in
      omega (arith, nothing, once-named name names (λ i j d low h. apart (suc i) (suc j) d (omega arith) (omega arith)))
]

-- what holds for each record holds for the entry of a stamp
at-each : (P : DirEntry → Type 0) (names : List Record) (key : ℕ) (entry : DirEntry) → AllByRecursion (λ (r : Record). P r.1) names → at key names ≡ Some entry → P entry
at-each P [] key entry all e = absurd (none_some entry e)
  where
    none_some : (entry : DirEntry) → (let none : Option DirEntry = None in none ≡ Some entry) → ⊥
    none_some entry e = cc
at-each P (x ∷ names) key entry all e = elim (cases_eq key x.0) [
  | inl same ↦
      let here : at key (x ∷ names) ≡ Some x.1 = ap (λ b. here_or b x.1 (at key names)) (eq-eqb key x.0 same) in
      subst P (some_one x.1 entry (sym here ∙ e)) all.0
  | inr off ↦
      let rest : at key (x ∷ names) ≡ at key names = ap (λ b. here_or b x.1 (at key names)) (ne_eqb key x.0 off) in
      at-each P names key entry all.1 (sym rest ∙ e)
]
  where
    some_one : (a b : DirEntry) → (let one : Option DirEntry = Some a in one ≡ Some b) → a ≡ b
    some_one a b e = cc

all-each : (P : Record → Type 0) (names : List Record) → ((i : ℕ) (d : Record) → i < length names → P (get_or names i d)) → AllByRecursion P names
all-each P [] each = tt
all-each P (x ∷ names) each = (each 0 x (omega arith), all-each P names (λ i d h. each (suc i) d (omega arith)))

names-allowed : (limits : Limits) (names : List Record) → NamesStamped names → NamesApart names → AreNamesAllowed limits names → AreNames limits (by_stamp names)
names-allowed limits names stamped apart allowed = record {
  rising = above_by_stamp names stamped;
  named = λ stamp entry e. at-each (λ (entry : DirEntry). IsNameAllowed limits entry.name) names stamp entry allowed (sym (at-by_stamp stamp names) ∙ e);
  once = λ name. omega (arith, names_total (λ entry. one_if (bytes_eq name entry.name)) names stamped, once-named name names apart);
}

allowed-names : (limits : Limits) (names : List Record) → NamesStamped names → AreNames limits (by_stamp names) → AreNamesAllowed limits names
allowed-names limits names stamped are = all-each (λ (r : Record). IsNameAllowed limits (name_of r)) names
    (λ i d h. are.named (get_or names i d).0 (get_or names i d).1 (at-by_stamp (get_or names i d).0 names ∙ at-stamp names stamped i d h))

names-count : (names : List Record) → NamesStamped names → length (by_stamp names) ≡ length names
names-count names stamped = sym (total-ones (by_stamp names)) ∙ names_total (λ entry. 1) names stamped ∙ total-ones names

-- Bytes of files: an image that holds nothing in sectors that are not marked holds the same files

abbrev marked_by : ℕ → List ℕ → List ℕ
marked_by zero content = []
marked_by (suc n) content = content

marked-bytes : (n : ℕ) (content : List ℕ) → (0 < n → All (λ byte. byte < 256) content) → All (λ byte. byte < 256) (marked_by n content)
marked-bytes zero content bytes = λ k d h. absurd (omega arith)
marked-bytes (suc n) content bytes = bytes (omega arith)

marked-same : (n : ℕ) (content : List ℕ) → 0 < n → content ≡ marked_by n content
marked-same zero content h = absurd (omega arith)
marked-same (suc n) content h = refl

module _ (nodes : ℕ) (image : Image) (mark : ℕ → ℕ) (cached_nodes : List (Option CachedNode)) (known : AreCached nodes mark cached_nodes) (bytes : HoldBytes image mark) where
  abbrev marked : Image
  marked n = marked_by (mark n) (image n)

  named_there : (n place : ℕ) (cached_node : CachedNode) → get_or cached_nodes place None ≡ Some cached_node → 0 < times_set n cached_node.blocks → 0 < mark n
  unfolding namings_of
  named_there n place cached_node there some =
      let least = named-at n cached_nodes place in
      let is : namings_of n (get_or cached_nodes place None) ≡ times n cached_node.fields.run_sectors + times_set n cached_node.blocks = ap (namings_of n) there in
      omega (arith, known.marks n)

  file-bytes : (place : ℕ) (cached_node : CachedNode) → get_or cached_nodes place None ≡ Some cached_node → All (λ byte. byte < 256) (bytes_in image cached_node.blocks cached_node.fields.size)
  file-bytes place cached_node there =
      let same : bytes_in image cached_node.blocks cached_node.fields.size ≡ bytes_in marked cached_node.blocks cached_node.fields.size =
      bytes-kept marked image cached_node.blocks (λ n some. marked-same (mark n) (image n) (named_there n place cached_node there some)) cached_node.fields.size in
      subst (λ (file : List ℕ). All (λ byte. byte < 256) file) (sym same)
      (bytes_fit marked cached_node.blocks cached_node.fields.size (λ n. marked-bytes (mark n) (image n) (bytes n)))

-- One node

module _ (image : Image) (limits : Limits) where
  kind-is : (kind : NodeKind) (cached_node : CachedNode) → kind_of (content_of image kind cached_node) ≡ kind
  kind-is kind.File cached_node = refl
  kind-is kind.Directory cached_node = refl

  size-is : (cached_node : CachedNode)
      → length (bytes_in image cached_node.blocks cached_node.fields.size) ≡ cached_node.fields.size
  unfolding bytes_in
  size-is cached_node = length-map-range_with_len (byte_at image cached_node.blocks) 0 cached_node.fields.size

  content-allowed : (kind : NodeKind) (cached_node : CachedNode) → All (λ byte. byte < 256) (bytes_in image cached_node.blocks cached_node.fields.size) → HasContent kind cached_node → IsContentAllowed limits kind cached_node → IsContent limits (content_of image kind cached_node)
  content-allowed kind.File cached_node bytes has allowed = (bytes, omega (arith, size-is cached_node))
  content-allowed kind.Directory cached_node bytes has allowed = names-allowed limits cached_node.names has.stamped has.names.apart allowed.names

  content-few : (kind : NodeKind) (cached_node : CachedNode) → HasContent kind cached_node → IsContentAllowed limits kind cached_node → length (names_of (content_of image kind cached_node)) ≤ limits.names
  content-few kind.File cached_node has allowed = omega arith
  content-few kind.Directory cached_node has allowed = omega (arith, names-count cached_node.names has.stamped, allowed.few)

  allowed-content : (kind : NodeKind) (cached_node : CachedNode) → HasContent kind cached_node → IsContent limits (content_of image kind cached_node) → length (names_of (content_of image kind cached_node)) ≤ limits.names → IsContentAllowed limits kind cached_node
  allowed-content kind.File cached_node has is few = let short = is.1 in omega (arith, size-is cached_node)
  allowed-content kind.Directory cached_node has is few = record {
    few = omega (arith, names-count cached_node.names has.stamped);
    names = allowed-names limits cached_node.names has.stamped is;
  }

  node-allowed : (cached_node : CachedNode) → All (λ byte. byte < 256) (bytes_in image cached_node.blocks cached_node.fields.size) → HasContent cached_node.fields.kind cached_node → IsNodeAllowed limits cached_node → IsNode limits (node_of image cached_node)
  unfolding node_of
  node-allowed cached_node bytes has allowed = record {
    entries = subst (λ (kind : NodeKind). IsTrue (is_list_for limits.aces_set limits.aces kind cached_node.fields.acl)) (sym (kind-is cached_node.fields.kind cached_node)) allowed.entries;
    content = content-allowed cached_node.fields.kind cached_node bytes has allowed.content;
  }

  node-few : (cached_node : CachedNode) → HasContent cached_node.fields.kind cached_node → IsNodeAllowed limits cached_node → length (names_of (node_of image cached_node).content) ≤ limits.names
  unfolding node_of
  node-few cached_node has allowed = content-few cached_node.fields.kind cached_node has allowed.content

  allowed-node : (cached_node : CachedNode) → HasContent cached_node.fields.kind cached_node → IsNode limits (node_of image cached_node) → length (names_of (node_of image cached_node).content) ≤ limits.names → IsNodeAllowed limits cached_node
  unfolding node_of
  allowed-node cached_node has is few = record {
    entries = subst (λ (kind : NodeKind). IsTrue (is_list_for limits.aces_set limits.aces kind cached_node.fields.acl)) (kind-is cached_node.fields.kind cached_node) is.entries;
    content = allowed-content cached_node.fields.kind cached_node has is.content few;
  }

  directory-content : (of : NodeKind) (cached_node : CachedNode) → of ≡ kind.Directory → is_directory (content_of image of cached_node) ≡ true
  directory-content kind.File cached_node is = absurd cc
  directory-content kind.Directory cached_node is = refl

  content-directory : (of : NodeKind) (cached_node : CachedNode) → is_directory (content_of image of cached_node) ≡ true → of ≡ kind.Directory
  content-directory kind.File cached_node is = absurd (true≢false (sym is))
  content-directory kind.Directory cached_node is = refl

  directory-is : (cached_node : CachedNode) → cached_node.fields.kind ≡ kind.Directory → is_directory_node (Some (node_of image cached_node)) ≡ true
  unfolding node_of
  directory-is cached_node is = directory-content cached_node.fields.kind cached_node is

  is-directory : (cached_node : CachedNode) → is_directory_node (Some (node_of image cached_node)) ≡ true → cached_node.fields.kind ≡ kind.Directory
  unfolding node_of
  is-directory cached_node is = content-directory cached_node.fields.kind cached_node is

-- The tree

module _ (nodes : ℕ) (image : Image) (mark : ℕ → ℕ) (cached_nodes : List (Option CachedNode)) (known : AreCached nodes mark cached_nodes) (bytes : HoldBytes image mark) (limits : Limits) where
  abbrev tree : Tree
  tree = tree_of image cached_nodes

  allowed-tree : AreNodesAllowed limits cached_nodes → HasAllowedNodes limits tree
  allowed-tree allowed = record {
    nodes = λ number node e. elim (find cached_nodes number) [
      | There place cached_node there is ↦
          subst (IsNode limits) (sym (node-is nodes image mark cached_nodes known 0 number node place cached_node e there is))
          (node-allowed image limits cached_node (file-bytes nodes image mark cached_nodes known bytes place cached_node there) (is_cached nodes image mark cached_nodes known place cached_node there).content (allowed.each place cached_node there))
      | Nowhere none ↦ absurd (none-node nodes image mark cached_nodes known 0 number node e ((tree_answers image cached_nodes known.apart number).none none))
    ];
    few = few-from limits.names 0 tree (tree-above image cached_nodes (each_above cached_nodes (is_cached nodes image mark cached_nodes known))) (λ number node e. elim (find cached_nodes number) [
      | There place cached_node there is ↦
          subst (λ (node : Node). length (names_of node.content) ≤ limits.names) (sym (node-is nodes image mark cached_nodes known 0 number node place cached_node e there is))
          (node-few image limits cached_node (is_cached nodes image mark cached_nodes known place cached_node there).content (allowed.each place cached_node there))
      | Nowhere none ↦ absurd (none-node nodes image mark cached_nodes known 0 number node e ((tree_answers image cached_nodes known.apart number).none none))
    ]);
    rooted = (let rooted = allowed.rooted in
        let at_root : at root tree ≡ Some (node_of image rooted.cached) = (tree_answers image cached_nodes known.apart root).found rooted.place rooted.cached rooted.there rooted.is.number in
        ap is_directory_node at_root ∙ directory-is image limits rooted.cached rooted.is.directory);
  }

  root-cached : IsTrue (is_directory_at tree root) → HasRootDirectory cached_nodes
  root-cached rooted = elim (find cached_nodes root) [
    | There place cached_node there is ↦ record {
      place = place;
      cached = cached_node;
      there = there;
      is = record {
        number = is;
        directory = is-directory image limits cached_node (sym (ap is_directory_node ((tree_answers image cached_nodes known.apart root).found place cached_node there is)) ∙ rooted);
      };
    }
    | Nowhere none ↦ absurd (true≢false (sym rooted ∙ ap is_directory_node ((tree_answers image cached_nodes known.apart root).none none)))
  ]

  tree-allowed : HasAllowedNodes limits tree → AreNodesAllowed limits cached_nodes
  tree-allowed has = record {
    each = λ place cached_node there.
        let found = (tree_answers image cached_nodes known.apart cached_node.fields.number).found place cached_node there refl in
        allowed-node image limits cached_node (is_cached nodes image mark cached_nodes known place cached_node there).content
        (has.nodes cached_node.fields.number (node_of image cached_node) found) (few-at limits.names tree cached_node.fields.number (node_of image cached_node) has.few found);
    rooted = root-cached has.rooted;
  }

  pub known_node : AreNodesAllowed limits cached_nodes ↔ HasAllowedNodes limits tree
  known_node = (allowed-tree, tree-allowed)

pub each_node : EachNode
each_node nodes image mark cached_nodes laid = known_node nodes image mark cached_nodes (laid_are_cached_nodes nodes image mark cached_nodes laid)
