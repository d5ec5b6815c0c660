-- Consecutive edits.
use Rattle.std.proofs.Common.{◌≡◌, ◌≤◌, ◌<◌, ◌+◌, ℕ, zero, suc, List, [], ◌∷◌, Some, length, drop, get_or, take, refl, sym, ap, ◌∙◌, arith, inl, inr, ⊎_elim}
use Rattle.std.specs.List.{IsAmong}
use Rattle.std.proofs.lemmas.List.{drop_more}
use Rattle.disk.specs.Moments.{Image}
use Rattle.node_table.specs.Tables.{node_number_at}
use Rattle.tree_transaction.specs.declared.transaction.Transaction.{Transaction}
use Rattle.tree_transaction.specs.Transactions.{cached_nodes_of, changed_tree, IsKnown, IsTransaction, StaysKnown}
use Rattle.tree_edits.specs.declared.edit.Edit.{Edit}
use Rattle.tree_edits.specs.declared.edit.Edit.TheVariants as declared
use Rattle.tree_edits.specs.Doing.{AreMade, DoesEdits, DoesAnywhere, made_by, updates_of_all, FitsOn, Overfills}
use Rattle.tree_edits.specs.Edits.{edit_of, edits_of, AreDoable, StayFew}
use Rattle.tree_edits.specs.Outlines.{without_data, tree_without_data}
use Rattle.tree_edits.proofs.BlankLaws.{edits_blanked, charge-without_data, length-without_data}
use Rattle.tree_edits.proofs.DoableLaws.{doable_alike, few_alike}
use Rattle.tree_edits.proofs.DoingLaws.{outline_fixed}
use Rattle.layout.specs.Stands.{HaveCurrentForms}
use Rattle.model_tree.specs.Trees.Charge.{charge}
use Rattle.model_tree.specs.Trees.Edit.{done, edited}
use Rattle.model_tree.specs.Trees.Edit as model
use Rattle.model_tree.specs.Trees.Keyed.{total}
use Rattle.model_tree.specs.Trees.Tree.{Tree}

-- Numbers of nodes that are made

later : (first : ℕ) (numbers : List ℕ) (number : ℕ) → IsAmong numbers number → IsAmong (first ∷ numbers) number
later first numbers number among = (suc among.0, (omega (arith, among.1.0), among.1.1))

made_first : (edit : Edit) (edits : List Edit) (number : ℕ) → IsAmong (made_by (edit ∷ [])) number → IsAmong (made_by (edit ∷ edits)) number
made_first (declared.PutNode made kind metadata) edits number among = first among.0 among.1.0 among.1.1
  where
    first : (place : ℕ) → place < 1 → number ≡ get_or (made ∷ []) place number → IsAmong (made ∷ made_by edits) number
    first zero less is = (0, (omega arith, is))
    first (suc place) less is = absurd (omega (arith, less))
made_first (declared.DropNode made) edits number among = absurd (omega (arith, among.1.0))
made_first (declared.Show made metadata) edits number among = absurd (omega (arith, among.1.0))
made_first (declared.PutName directory stamp name made) edits number among = absurd (omega (arith, among.1.0))
made_first (declared.DropName directory stamp name) edits number among = absurd (omega (arith, among.1.0))
made_first (declared.PutBytes file offset bytes) edits number among = absurd (omega (arith, among.1.0))
made_first (declared.SetSize file size) edits number among = absurd (omega (arith, among.1.0))

made_later : (edit : Edit) (edits : List Edit) (number : ℕ) → IsAmong (made_by edits) number → IsAmong (made_by (edit ∷ edits)) number
made_later (declared.PutNode made kind metadata) edits number among = later made (made_by edits) number among
made_later (declared.DropNode made) edits number among = among
made_later (declared.Show made metadata) edits number among = among
made_later (declared.PutName directory stamp name made) edits number among = among
made_later (declared.DropName directory stamp name) edits number among = among
made_later (declared.PutBytes file offset bytes) edits number among = among
made_later (declared.SetSize file size) edits number among = among

-- What is charged does not depend on the bytes of files

same_charge : (tree other : Tree) (edits : List model.Edit) → without_data other ≡ without_data tree → total charge (edited edits other) ≡ total charge (edited edits tree)
same_charge tree other edits alike =
    sym (charge-without_data (edited edits other))
    ∙ ap (total charge) (sym (edits_blanked edits other))
    ∙ ap (λ (t : Tree). total charge (without_data (edited edits t))) alike
    ∙ ap (total charge) (edits_blanked edits tree) ∙ charge-without_data (edited edits tree)

same_length : (tree other : Tree) (edits : List model.Edit) → without_data other ≡ without_data tree → length (edited edits other) ≡ length (edited edits tree)
same_length tree other edits alike =
    sym (length-without_data (edited edits other)) ∙ ap (λ (t : Tree). length t) (sym (edits_blanked edits other))
    ∙ ap (λ (t : Tree). length (without_data (edited edits t))) alike
    ∙ ap (λ (t : Tree). length t) (edits_blanked edits tree)
    ∙ length-without_data (edited edits tree)

-- What is left of edits

pub next_edit : (edits : List Edit) (i : ℕ) (edit : Edit) → i < length edits → edit ≡ get_or edits i edit → drop i edits ≡ edit ∷ drop (i + 1) edits
next_edit edits i edit within is = drop_more edits i edit within ∙ ap (λ (one : Edit). one ∷ drop (i + 1) edits) (sym is)

-- Edits that were performed, and none

pub does_nothing : (word : Type 0) (base : Image) (size : ℕ) (transaction : Transaction) → IsKnown transaction → DoesEdits word base size transaction transaction []
does_nothing word base size transaction known = record {
  known = record { known = known; nodes = refl; places = refl };
  outline = sym (outline_fixed (cached_nodes_of transaction));
  forms = λ forms. forms;
  made = λ place number is. inl is;
  tree = λ k laid. (laid, refl);
  count = omega arith;
}

-- their effects on a transaction, except the number of updates

pub record Leads (word : Type 0) (base : Image) (size : ℕ) (old new : Transaction) (edits : List Edit) : Type 0 where
  pub known : StaysKnown old new
  pub outline : tree_without_data (cached_nodes_of new) ≡ without_data (edited (edits_of edits) (tree_without_data (cached_nodes_of old)))
  pub forms : HaveCurrentForms (cached_nodes_of old) → HaveCurrentForms (cached_nodes_of new)
  pub made : AreMade (cached_nodes_of old) (cached_nodes_of new) (made_by edits)
  pub tree : word → IsTransaction base size old → IsTransaction base size new × (changed_tree base new ≡ edited (edits_of edits) (changed_tree base old))

leads : (word : Type 0) (base : Image) (size : ℕ) (old new : Transaction) (edits : List Edit) → DoesEdits word base size old new edits → Leads word base size old new edits
leads word base size old new edits does = record { known = does.known; outline = does.outline; forms = does.forms; made = does.made; tree = does.tree }

pub does_so : (word : Type 0) (base : Image) (size : ℕ) (old new : Transaction) (edits : List Edit) → Leads word base size old new edits → length new.updates ≤ length old.updates + updates_of_all edits → DoesEdits word base size old new edits
does_so word base size old new edits leads count = record { known = leads.known; outline = leads.outline; forms = leads.forms; made = leads.made; tree = leads.tree; count = count }

pub anywhere : (word : Type 0) (base : Image) (size : ℕ) (old new : Transaction) (edit : Edit) → DoesAnywhere old new edit → DoesEdits word base size old new (edit ∷ [])
anywhere word base size old new edit does =
    let it = does base size in
    record { known = it.known; outline = it.outline; forms = it.forms; made = it.made; tree = λ k. it.tree tt; count = it.count }

module _ (word : Type 0) (base : Image) (size : ℕ) (old mid : Transaction) (edit : Edit) (first : Leads word base size old mid (edit ∷ [])) where
  -- what memory knows of the tree in between
  alike : without_data (tree_without_data (cached_nodes_of mid)) ≡ without_data (done (edit_of edit) (tree_without_data (cached_nodes_of old)))
  alike = outline_fixed (cached_nodes_of mid) ∙ first.outline

  pub leads_on : (new : Transaction) (edits : List Edit) → Leads word base size mid new edits → Leads word base size old new (edit ∷ edits)
  leads_on new edits rest = record {
    known = record {
      known = rest.known.known;
      nodes = rest.known.nodes ∙ first.known.nodes;
      places = rest.known.places ∙ first.known.places;
    };
    outline = rest.outline
        ∙ sym (edits_blanked (edits_of edits) (tree_without_data (cached_nodes_of mid)))
        ∙ ap (λ (t : Tree). without_data (edited (edits_of edits) t)) alike
        ∙ edits_blanked (edits_of edits) (done (edit_of edit) (tree_without_data (cached_nodes_of old)));
    forms = λ forms. rest.forms (first.forms forms);
    made = λ place number is. ⊎_elim
        (λ (stood : node_number_at (cached_nodes_of mid) place ≡ Some number). ⊎_elim
        (λ (before : node_number_at (cached_nodes_of old) place ≡ Some number). inl before)
        (λ (among : IsAmong (made_by (edit ∷ [])) number). inr (made_first edit edits number among)) (first.made place number stood))
        (λ (among : IsAmong (made_by edits) number). inr (made_later edit edits number among)) (rest.made place number is);
    tree = λ k laid.
        let one = first.tree k laid in
        let all = rest.tree k one.0 in
        (all.0, all.1 ∙ ap (edited (edits_of edits)) one.1);
  }

module _ (word : Type 0) (base : Image) (size : ℕ) (old mid : Transaction) (edit : Edit) (first : DoesEdits word base size old mid (edit ∷ [])) where
  led : Leads word base size old mid (edit ∷ [])
  led = leads word base size old mid (edit ∷ []) first

  alike_led : without_data (tree_without_data (cached_nodes_of mid)) ≡ without_data (done (edit_of edit) (tree_without_data (cached_nodes_of old)))
  alike_led = alike word base size old mid edit led

  pub goes_on : (new : Transaction) (edits : List Edit) → DoesEdits word base size mid new edits → DoesEdits word base size old new (edit ∷ edits)
  goes_on new edits rest = does_so word base size old new (edit ∷ edits) (leads_on word base size old mid edit led new edits (leads word base size mid new edits rest)) (omega (arith, first.count, rest.count))

  pub still_doable : (edits : List Edit) → AreDoable (tree_without_data (cached_nodes_of old)) (edit ∷ edits) → AreDoable (tree_without_data (cached_nodes_of mid)) edits
  still_doable edits can = doable_alike (done (edit_of edit) (tree_without_data (cached_nodes_of old))) (tree_without_data (cached_nodes_of mid)) edits alike_led can.1

  pub still_few : (edits : List Edit) → StayFew (tree_without_data (cached_nodes_of old)) (edit ∷ edits) → StayFew (tree_without_data (cached_nodes_of mid)) edits
  still_few edits few = few_alike (done (edit_of edit) (tree_without_data (cached_nodes_of old))) (tree_without_data (cached_nodes_of mid)) edits alike_led few.1

  pub overfills_later : (edits : List Edit) → Overfills mid edits → Overfills old (edit ∷ edits)
  overfills_later edits over = record {
    count = suc over.count;
    within = omega (arith, over.within);
    full = λ room. over.full (record {
      charge = (let fits = room.charge in omega (arith, fits, first.known.places, same_charge (done (edit_of edit) (tree_without_data (cached_nodes_of old))) (tree_without_data (cached_nodes_of mid)) (take over.count (edits_of edits)) alike_led));
      nodes = (let fits = room.nodes in omega (arith, fits, first.known.nodes, same_length (done (edit_of edit) (tree_without_data (cached_nodes_of old))) (tree_without_data (cached_nodes_of mid)) (take over.count (edits_of edits)) alike_led));
    });
  }

pub overfills_first : (transaction : Transaction) (edit : Edit) (edits : List Edit) → Overfills transaction (edit ∷ []) → Overfills transaction (edit ∷ edits)
overfills_first transaction edit edits over = by_count over.count over.within over.full
  where
    by_count : (count : ℕ) → count ≤ 1 → (FitsOn (length transaction.places) transaction.nodes (edited (take count (edit_of edit ∷ [])) (tree_without_data (cached_nodes_of transaction))) → ⊥) → Overfills transaction (edit ∷ edits)
    by_count zero within full = record { count = 0; within = omega arith; full = full }
    by_count (suc zero) within full = record { count = 1; within = omega arith; full = full }
    by_count (suc (suc count)) within full = absurd (omega (arith, within))
