-- What the cached node of a node shows of it.
use Rattle.std.proofs.Common.{◌≡◌, ◌∙◌, ℕ, Bool, true, false, List, [], ◌∷◌, Option, Some, length, eqb, ltb, refl, sym, ap, subst, arith}
use Rattle.std.proofs.lemmas.Bool.{lt-ltb}
use Rattle.std.specs.Prelude.{nat_lt, ◌||◌}
use Rattle.directory.specs.Listing.{by_stamp}
use Rattle.directory.specs.Records.{Record, NamesStamped}
use Rattle.layout.specs.CachedNodes.{CachedNode}
use Rattle.layout.specs.Known.{IsCached, HasContent}
use Rattle.model_tree.specs.declared.acl.Cred.{Cred}
use Rattle.model_tree.specs.declared.node.NodeKind.{NodeKind}
use Rattle.model_tree.specs.declared.node.NodeKind.TheVariants as kind
use Rattle.model_tree.specs.Rights.Acl.{granted, delete, delete_child}
use Rattle.model_tree.specs.Trees.Keyed.{Keyed, at, with, in_place_of, before_or_behind}
use Rattle.model_tree.specs.Trees.Tree.{number_named, Tree, Node, Content, Directory, is_directory, is_directory_node, is_directory_at, names_of, names_at, names_of_node, entry_of}
use Rattle.model.specs.Operations.Need.{granted_on}
use Rattle.model.specs.Operations.Rename.{has_names}
use Rattle.fs.specs.Removing.{may_remove}
use Rattle.volume.specs.Nodes.{IsNodeOf, ShowsContent}

-- the names of a directory have stamps of their own
pub stamped : (cached : CachedNode) → IsCached cached → cached.fields.kind ≡ kind.Directory → NamesStamped cached.names
stamped cached fit directory = (let has = subst (λ (of : NodeKind). HasContent of cached) directory fit.content in has.stamped)

some : {A : Type 0} (entry : A) (rest : List A) → nat_lt 0 (length (entry ∷ rest)) ≡ true
some entry rest = lt-ltb 0 (length (entry ∷ rest)) (omega arith)

-- there are no names by stamp only if there are no names
with_some : {A : Type 0} (entries : Keyed A) (key : ℕ) (value : A) → nat_lt 0 (length (with entries key value)) ≡ true
with_some {A} [] key value = some {A = ℕ × A} (key, value) []
with_some {A} (entry ∷ rest) key value = by_key (eqb key entry.0) (ltb key entry.0)
  where
    by_key : (same less : Bool) → nat_lt 0 (length (in_place_of same (key, value) rest (before_or_behind less (key, value) entry rest (with rest key value)))) ≡ true
    by_key true less = some {A = ℕ × A} (key, value) rest
    by_key false true = some {A = ℕ × A} (key, value) (entry ∷ rest)
    by_key false false = some entry (with rest key value)

any_by_stamp : (names : List Record) → nat_lt 0 (length (by_stamp names)) ≡ nat_lt 0 (length names)
any_by_stamp [] = refl
any_by_stamp (entry ∷ rest) = with_some (by_stamp rest) entry.0 entry.1 ∙ sym (some entry rest)

module _ (tree : Tree) (number : ℕ) (cached : CachedNode) (is : IsNodeOf tree number cached) where
  pub granted_by : (cred : Cred) (mask : ℕ) → granted cached.fields.acl cached.fields.owner cached.fields.group cred mask ≡ granted_on (Some is.node) cred mask
  granted_by cred mask = rw (is.acl, is.owner, is.group) refl

  pub names_are : cached.fields.kind ≡ kind.Directory → is.node.content ≡ Directory (by_stamp cached.names)
  names_are directory = subst (λ (of : NodeKind). ShowsContent of cached is.node.content) directory is.content

  pub no_directory : (cached.fields.kind ≡ kind.Directory → ⊥) → is_directory is.node.content ≡ false
  no_directory other = by_kind cached.fields.kind is.content other
    where
      by_kind : (of : NodeKind) → ShowsContent of cached is.node.content → (of ≡ kind.Directory → ⊥) → is_directory is.node.content ≡ false
      by_kind kind.File file other = ap is_directory file.file
      by_kind kind.Directory names other = absurd (other refl)

  -- what a search of the names returns is what the tree has
  pub entry_is : IsCached cached → cached.fields.kind ≡ kind.Directory → (name : List ℕ) (names : List Record) → names ≡ cached.names → (found : Option Record)
      → (NamesStamped names → found ≡ entry_of name (by_stamp names)) → entry_of name (names_of is.node.content) ≡ found
  entry_is fit directory name names same found told =
      ap (λ (content : Content). entry_of name (names_of content)) (names_are directory)
      ∙ ap (λ (those : List Record). entry_of name (by_stamp those)) (sym same)
      ∙ sym (told (subst NamesStamped (sym same) (stamped cached fit directory)))

  -- whether it is a directory, and whether it has names
  pub is_directory_told : (told : Bool) → (told ≡ true → cached.fields.kind ≡ kind.Directory) → (cached.fields.kind ≡ kind.Directory → told ≡ true) → told ≡ is_directory_at tree number
  is_directory_told true on back = sym (ap is_directory_node is.there ∙ ap is_directory (names_are (on refl)))
  is_directory_told false on back = sym (ap is_directory_node is.there ∙ no_directory (λ same. false≢true (back same)))
    where
      false≢true : false ≡ true → ⊥
      false≢true same = cc

  pub has_names_told : cached.fields.kind ≡ kind.Directory → (names : List Record) → names ≡ cached.names → nat_lt 0 (length names) ≡ has_names tree number
  has_names_told directory names same = ap (λ (l : List Record). nat_lt 0 (length l)) same ∙ sym (any_by_stamp cached.names)
      ∙ sym (ap (λ (o : Option Node). nat_lt 0 (length (names_of_node o))) is.there ∙ ap (λ (content : Content). nat_lt 0 (length (names_of content))) (names_are directory))

  -- whether an entry may be removed, by the number that it leads to
  pub may_remove_told : (name : List ℕ) (cred : Cred) (target : ℕ) → number_named tree number name ≡ target
      → (granted_on (at target tree) cred delete || granted cached.fields.acl cached.fields.owner cached.fields.group cred delete_child) ≡ may_remove tree cred number name
  may_remove_told name cred target named =
      ap (λ (n : ℕ). granted_on (at n tree) cred delete || granted cached.fields.acl cached.fields.owner cached.fields.group cred delete_child) (sym named)
      ∙ ap (λ (b : Bool). granted_on (at (number_named tree number name) tree) cred delete || b)
      (granted_by cred delete_child ∙ ap (λ (o : Option Node). granted_on o cred delete_child) (sym is.there) ∙ sym (or_false (granted_on (at number tree) cred delete_child)))
    where
      or_false : (b : Bool) → (b || false) ≡ b
      or_false true = refl
      or_false false = refl

  -- the entry of a name
  pub entry_at : IsCached cached → cached.fields.kind ≡ kind.Directory → (name : List ℕ) (names : List Record) → names ≡ cached.names → (found : Option Record)
      → (NamesStamped names → found ≡ entry_of name (by_stamp names)) → entry_of name (names_at tree number) ≡ found
  entry_at fit directory name names same found told =
      ap (λ (o : Option Node). entry_of name (names_of_node o)) is.there ∙ entry_is fit directory name names same found told

  -- what is a directory is one by its cached node
  pub encoded_kind : is_directory_at tree number ≡ true → cached.fields.kind ≡ kind.Directory
  encoded_kind told = by_kind cached.fields.kind is.content (sym (ap is_directory_node is.there) ∙ told)
    where
      by_kind : (of : NodeKind) → ShowsContent of cached is.node.content → is_directory is.node.content ≡ true → of ≡ kind.Directory
      by_kind kind.File file told = absurd (false≢true (sym (ap is_directory file.file) ∙ told))
        where
          false≢true : false ≡ true → ⊥
          false≢true same = cc
      by_kind kind.Directory names told = refl
