use Rattle.std.proofs.Common.{◌≡◌, ◌∙◌, ◌==◌, ◌&&◌, true, false, not, sym, ap, refl, rules, ℕ, Bool, bytes_eq, replicate, is_some}
use Rattle.std.specs.Prelude.{Option, Some}
use Rattle.directory.specs.Listing.{after, by_stamp}
use Rattle.layout.specs.CachedNodes.{CachedNode}
use Rattle.model_tree.specs.declared.acl.Cred.{Cred}
use Rattle.model_tree.specs.declared.status.Status.TheVariants as status
use Rattle.model_tree.specs.Rights.Acl.{read_data}
use Rattle.model_tree.specs.Trees.Keyed.{at, is_key}
use Rattle.model.specs.Operations.Need.{granted_on}
use Rattle.model.specs.Operations.Operation.{ReadDirArguments}
use Rattle.model.specs.Operations.ReadDir.{asks_errors}
use Rattle.model_tree.specs.Refusals.Refusal.{first_refusal}
use Rattle.model_tree.specs.Trees.Tree.{Tree, Node, is_directory, is_directory_at, is_directory_node, names_at, names_of, names_of_node}
use Rattle.fs.specs.Listing.{list_arguments, list_refusals, may_read_acls}
use Rattle.fs.specs.Views.{fs_of}
use Rattle.fs.proofs.CachedNodeViews.{granted_by, names_are}
use Rattle.fs.proofs.fs.Fs.permit_read_dir.Goals as goal
use Rattle.model.specs.Operations.SetAttr.{asks_acls}

-- if lists are asked for and that of an entry may not be read, the last of the tests refuses
unreadable : (tree : Tree) (cred : Cred) (number : ℕ) (asked : ReadDirArguments) → is_key number tree ≡ true → is_directory_at tree number ≡ true
    → granted_on (at number tree) cred read_data ≡ true → (not (asked.cookie == 0) && not (bytes_eq asked.verifier (replicate 8 0))) ≡ false
    → (asks_acls asked.bitmap && not (asks_errors asked.bitmap)) ≡ true → may_read_acls tree cred number asked.cookie ≡ false
    → first_refusal (list_refusals tree cred number asked) ≡ Some status.Access
unreadable tree cred number asked key directory granted cookie must may = rw (key, directory, granted, cookie, must, may) refl

pub returns-then-not-grants-clause-tests : goal.returns-then-not-grants-clause-tests
unfolding fs_of
returns-then-not-grants-clause-tests g c = search rules

pub returns-then-has_other_verifier-clause-tests : goal.returns-then-has_other_verifier-clause-tests
unfolding fs_of
returns-then-has_other_verifier-clause-tests g c = search rules

pub returns-then-not-may_read_acls-clause-tests : goal.returns-then-not-may_read_acls-clause-tests
unfolding fs_of
returns-then-not-may_read_acls-clause-tests g c dir_count =
    let tree = (fs_of c.args.self.now).volume.tree in
    let number = c.args.listing.now.directory in
    let cookie = c.args.listing.now.cookie in
    let cred = c.args.cred.now in
    let node = c.in-Some.ensures.some in
    let content = names_are tree number c.in-Some.cached.now node (c.is_directory.ensures.0 c.if-not-is_directory.false) in
    let names : by_stamp c.cached.inside.names ≡ names_at tree number =
    ap (λ (cached_node : CachedNode). by_stamp cached_node.names) c.cached.view_is ∙ sym (ap names_of_node node.there ∙ ap names_of content) in
    unreadable tree cred number (list_arguments c.args.listing.now dir_count) (ap is_some node.there) (ap is_directory_node node.there ∙ ap is_directory content)
    (ap (λ (found : Option Node). granted_on found cred read_data) node.there ∙ sym (granted_by tree number c.in-Some.cached.now node cred read_data) ∙ (sym c.grants.ensures ∙ c.if-not-grants.false))
    (sym c.has_other_verifier.ensures ∙ c.if-has_other_verifier.false) (sym c.must_read_acls.ensures ∙ c.if-must_read_acls.true)
    (search (rules, names, c.may_read_acls.ensures, c.list_after-names.ensures, c.if-not-may_read_acls.true))
