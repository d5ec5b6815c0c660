-- Trees with zeros for the bytes of some files: what an edit makes of them, and what does not change.
use Rattle.std.proofs.Common.{◌≡◌, ◌+◌, ◌-◌, ◌++◌, ℕ, zero, suc, Bool, true, false, cond, List, [], ◌∷◌, Option, Some, None, length, drop, replicate, eqb-true, refl, sym, ap, ap₂, ◌∙◌, arith}
use Rattle.std.specs.Prelude.{option_map, nat_le, nat_lt, ◌&&◌, ◌==◌}
use Rattle.std.specs.List.{list_any}
use Rattle.std.proofs.lemmas.List.{length-append, length-replicate, length-drop}
use Rattle.model_tree.specs.Trees.Ancestors.{parent_of, ancestors_in, is_below}
use Rattle.model_tree.specs.Trees.Charge.{charge, charge_of_blocks, blocks, blocks_of, few_names, fits}
use Rattle.model_tree.specs.Trees.Edit.{Edit, PutNode, DropNode, Show, PutName, DropName, PutBytes, SetSize, done, edited, altered, altered_at, showing, with_content, name_put, name_dropped, resized, overwritten}
use Rattle.model_tree.specs.Trees.Keyed.{Keyed, at, with, without, total, here_or, before_or_behind, in_place_of, kept_or_not}
use Rattle.model_tree.specs.Trees.Tree.{Tree, Node, Content, File, Directory, DirEntry, names_of, bytes_of, root}
use Rattle.model_tree.specs.Trees.WellFormed.{links_from}
use Rattle.model_tree.specs.declared.limits.Limits.{Limits}
use Rattle.model_tree.specs.declared.node.NodeKind.TheVariants as kind
use Rattle.model_tree.proofs.Trees.NodeChangeLaws.{length-resized}
use Rattle.secrecy.specs.Blind.{blank, hidden_if, hidden}

-- Content and nodes

abbrev zeros : ℕ → List ℕ
zeros n = replicate n 0

length-zeros : (n : ℕ) → length (zeros n) ≡ n
length-zeros n = (let none : ℕ = 0 in length-replicate n none)

blank-twice : (content : Content) → blank (blank content) ≡ blank content
blank-twice (File bytes) = ap (λ (n : ℕ). File (replicate n 0)) (length-zeros (length bytes))
blank-twice (Directory names) = refl

names-blank : (content : Content) → names_of (blank content) ≡ names_of content
names-blank (File bytes) = refl
names-blank (Directory names) = refl

bytes-blank : (content : Content) → length (bytes_of (blank content)) ≡ length (bytes_of content)
bytes-blank (File bytes) = length-zeros (length bytes)
bytes-blank (Directory names) = refl

blocks-blank : (content : Content) → blocks (blank content) ≡ blocks content
blocks-blank (File bytes) = ap (blocks_of kind.File) (length-zeros (length bytes))
blocks-blank (Directory names) = refl

pub node-twice : (b : Bool) (node : Node) → hidden_if b (hidden_if b node) ≡ hidden_if b node
node-twice true node = ap (with_content node) (blank-twice node.content)
node-twice false node = refl

names-hidden : (b : Bool) (node : Node) → names_of (hidden_if b node).content ≡ names_of node.content
names-hidden true node = names-blank node.content
names-hidden false node = refl

charge-hidden : (b : Bool) (node : Node) → charge (hidden_if b node) ≡ charge node
charge-hidden true node = ap charge_of_blocks (blocks-blank node.content)
charge-hidden false node = refl

-- The tree

module _ (secret : ℕ → Bool) where
  abbrev hide : ℕ → Node → Node
  hide number node = hidden_if (secret number) node

  pub at-hidden : (tree : Tree) (number : ℕ) → at number (hidden secret tree) ≡ option_map (hide number) (at number tree)
  at-hidden [] number = refl
  at-hidden (entry ∷ rest) number = by_key (at-hidden rest number) (number == entry.0) refl
    where
      by_key : at number (hidden secret rest) ≡ option_map (hide number) (at number rest) → (b : Bool) → (number == entry.0) ≡ b
          → here_or b (hide entry.0 entry.1) (at number (hidden secret rest)) ≡ option_map (hide number) (here_or b entry.1 (at number rest))
      by_key others true same = ap (λ (n : ℕ). Some (hide n entry.1)) (sym (eqb-true number entry.0 same))
      by_key others false apart = others

  hidden-with : (tree : Tree) (number : ℕ) (node : Node) → hidden secret (with tree number node) ≡ with (hidden secret tree) number (hide number node)
  hidden-with [] number node = refl
  hidden-with (entry ∷ rest) number node = by_key (hidden-with rest number node) (number == entry.0) (nat_lt number entry.0)
    where
      by_key : hidden secret (with rest number node) ≡ with (hidden secret rest) number (hide number node) → (same less : Bool)
          → hidden secret (in_place_of same (number, node) rest (before_or_behind less (number, node) entry rest (with rest number node)))
          ≡ in_place_of same (number, hide number node) (hidden secret rest)
          (before_or_behind less (number, hide number node) (entry.0, hide entry.0 entry.1) (hidden secret rest) (with (hidden secret rest) number (hide number node)))
      by_key others true less = refl
      by_key others false true = refl
      by_key others false false = ap (λ (t : Tree). (entry.0, hide entry.0 entry.1) ∷ t) others

  hidden-without : (tree : Tree) (number : ℕ) → hidden secret (without tree number) ≡ without (hidden secret tree) number
  hidden-without [] number = refl
  hidden-without (entry ∷ rest) number = by_key (hidden-without rest number) (number == entry.0)
    where
      by_key : hidden secret (without rest number) ≡ without (hidden secret rest) number → (same : Bool)
          → hidden secret (kept_or_not same entry (without rest number)) ≡ kept_or_not same (entry.0, hide entry.0 entry.1) (without (hidden secret rest) number)
      by_key others true = others
      by_key others false = ap (λ (t : Tree). (entry.0, hide entry.0 entry.1) ∷ t) others

  pub hidden-twice : (tree : Tree) → hidden secret (hidden secret tree) ≡ hidden secret tree
  hidden-twice [] = refl
  hidden-twice (entry ∷ rest) = ap₂ (λ (node : Node) (t : Tree). (entry.0, node) ∷ t) (node-twice (secret entry.0) entry.1) (hidden-twice rest)

  length-hidden : (tree : Tree) → length (hidden secret tree) ≡ length tree
  length-hidden [] = refl
  length-hidden (entry ∷ rest) = ap suc (length-hidden rest)

  -- Whether a tree fits

  charges-hidden : (tree : Tree) → total charge (hidden secret tree) ≡ total charge tree
  charges-hidden [] = refl
  charges-hidden (entry ∷ rest) = ap₂ (λ (n m : ℕ). n + m) (charge-hidden (secret entry.0) entry.1) (charges-hidden rest)

  few-hidden : (most : ℕ) (tree : Tree) → few_names most (hidden secret tree) ≡ few_names most tree
  few-hidden most [] = refl
  few-hidden most (entry ∷ rest) =
      ap₂ (λ (names : Keyed DirEntry) (few : Bool). nat_le (length names) most && few) (names-hidden (secret entry.0) entry.1) (few-hidden most rest)

  pub fits-hidden : (limits : Limits) (tree : Tree) → fits limits (hidden secret tree) ≡ fits limits tree
  unfolding fits
  fits-hidden limits tree =
      ap₂ (λ (sum : ℕ) (rest : Bool). nat_le sum limits.data_sectors && rest) (charges-hidden tree)
      (ap₂ (λ (count : ℕ) (few : Bool). nat_le count limits.nodes && few) (length-hidden tree) (few-hidden limits.names tree))

  -- Who is above whom

  pub parent-hidden : (tree : Tree) (number : ℕ) → parent_of (hidden secret tree) number ≡ parent_of tree number
  parent-hidden [] number = refl
  parent-hidden (entry ∷ rest) number =
      ap₂ (λ (links parent : ℕ). cond (nat_lt 0 links) entry.0 parent) (links (secret entry.0) entry.1) (parent-hidden rest number)
    where
      links : (b : Bool) (node : Node) → links_from number (hidden_if b node) ≡ links_from number node
      links true node = by_content node.content
        where
          by_content : (content : Content) → links_from number (with_content node (blank content)) ≡ links_from number (with_content node content)
          by_content (File bytes) = refl
          by_content (Directory names) = refl
      links false node = refl

  ancestors-hidden : (steps : ℕ) (tree : Tree) (number : ℕ) → ancestors_in steps (hidden secret tree) number ≡ ancestors_in steps tree number
  ancestors-hidden zero tree number = refl
  ancestors-hidden (suc steps) tree number =
      ap (λ (above : List ℕ). number ∷ cond (number == root) [] above)
      (ap (ancestors_in steps (hidden secret tree)) (parent-hidden tree number) ∙ ancestors-hidden steps tree (parent_of tree number))

  pub below-hidden : (tree : Tree) (upper number : ℕ) → is_below (hidden secret tree) upper number ≡ is_below tree upper number
  below-hidden tree upper number =
      ap (λ (of : List ℕ). list_any (λ n. n == upper) of)
      (ap (λ (steps : ℕ). ancestors_in steps (hidden secret tree) number) (length-hidden tree) ∙ ancestors-hidden (length tree) tree number)

  -- Edits

  abbrev Respects : (Node → Node) → Type 0
  Respects change = (b : Bool) (node : Node) → hidden_if b (change (hidden_if b node)) ≡ hidden_if b (change node)

  altered-hidden : (change : Node → Node) → Respects change → (tree : Tree) (number : ℕ)
      → hidden secret (altered change (hidden secret tree) number) ≡ hidden secret (altered change tree number)
  altered-hidden change respects tree number =
      ap (λ (there : Option Node). hidden secret (altered_at change (hidden secret tree) number there)) (at-hidden tree number) ∙ by_node (at number tree)
    where
      by_node : (there : Option Node)
          → hidden secret (altered_at change (hidden secret tree) number (option_map (hide number) there)) ≡ hidden secret (altered_at change tree number there)
      by_node None = hidden-twice tree
      by_node (Some node) =
          hidden-with (hidden secret tree) number (change (hide number node))
          ∙ ap₂ (λ (t : Tree) (one : Node). with t number one) (hidden-twice tree) (respects (secret number) node)
          ∙ sym (hidden-with tree number (change node))

  overwritten-length : (bytes part : List ℕ) (offset : ℕ) → length (overwritten bytes offset part) ≡ offset + (length part + (length bytes - (offset + length part)))
  overwritten-length bytes part offset =
      length-append (resized bytes offset) (part ++ drop (offset + length part) bytes)
      ∙ omega (arith, length-resized bytes offset, length-append part (drop (offset + length part) bytes), length-drop (offset + length part) bytes)

  -- a file's new bytes, whose length depends on that of the old ones only
  rewrites : (change : List ℕ → List ℕ) (size : ℕ → ℕ) → ((bytes : List ℕ) → length (change bytes) ≡ size (length bytes))
      → Respects (λ node. with_content node (File (change (bytes_of node.content))))
  rewrites change size sized true node =
      ap (λ (n : ℕ). with_content node (File (replicate n 0)))
      (sized (bytes_of (blank node.content)) ∙ (ap size (bytes-blank node.content) ∙ sym (sized (bytes_of node.content))))
  rewrites change size sized false node = refl

  shows : (b : Bool) (node : Node) (shown : _) → hidden_if b (showing shown (hidden_if b node)) ≡ hidden_if b (showing shown node)
  shows true node shown = ap (with_content (showing shown node)) (blank-twice node.content)
  shows false node shown = refl

  names_respect : (change : Keyed DirEntry → Keyed DirEntry) → Respects (λ node. with_content node (Directory (change (names_of node.content))))
  names_respect change true node = ap (λ (names : Keyed DirEntry). with_content node (Directory (change names))) (names-blank node.content)
  names_respect change false node = refl

  done-hidden : (edit : Edit) (tree : Tree) → hidden secret (done edit (hidden secret tree)) ≡ hidden secret (done edit tree)
  done-hidden (PutNode number node) tree =
      hidden-with (hidden secret tree) number node
      ∙ ap (λ (t : Tree). with t number (hide number node)) (hidden-twice tree) ∙ sym (hidden-with tree number node)
  done-hidden (DropNode number) tree =
      hidden-without (hidden secret tree) number ∙ ap (λ (t : Tree). without t number) (hidden-twice tree) ∙ sym (hidden-without tree number)
  done-hidden (Show number shown) tree = altered-hidden (showing shown) (λ b node. shows b node shown) tree number
  done-hidden (PutName directory stamp entry) tree = altered-hidden (name_put stamp entry) (names_respect (λ names. with names stamp entry)) tree directory
  done-hidden (DropName directory stamp) tree = altered-hidden (name_dropped stamp) (names_respect (λ names. without names stamp)) tree directory
  done-hidden (PutBytes file offset part) tree =
      altered-hidden (λ node. with_content node (File (overwritten (bytes_of node.content) offset part)))
      (rewrites (λ bytes. overwritten bytes offset part) (λ n. offset + (length part + (n - (offset + length part)))) (λ bytes. overwritten-length bytes part offset)) tree file
  done-hidden (SetSize file size) tree =
      altered-hidden (λ node. with_content node (File (resized (bytes_of node.content) size)))
      (rewrites (λ bytes. resized bytes size) (λ n. size) (λ bytes. length-resized bytes size)) tree file

  pub edits-hidden : (edits : List Edit) (tree : Tree) → hidden secret (edited edits (hidden secret tree)) ≡ hidden secret (edited edits tree)
  edits-hidden [] tree = hidden-twice tree
  edits-hidden (edit ∷ edits) tree =
      sym (edits-hidden edits (done edit (hidden secret tree)))
      ∙ ap (λ (t : Tree). hidden secret (edited edits t)) (done-hidden edit tree) ∙ edits-hidden edits (done edit tree)
