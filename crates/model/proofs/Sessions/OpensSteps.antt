-- Every operation keeps the opens: those of a file that is removed end, and a new open is of a
-- file.
use Rattle.std.proofs.Common.{ℕ, Bool, true, false, List, ◌++◌, ◌≡◌, ◌≢◌, ◌+◌, ◌-◌, ◌^◌, ◌<◌, ◌≤◌, ◌&&◌, ◌||◌, ◌==◌, not, if◌then◌else◌, inl, inr, refl, sym, ap, ◌∙◌, subst, arith, is_some, length, filter, nat_le, eq-eqb}
use Rattle.std.specs.Prelude.{Option, Some, None, is_none}
use Rattle.std.specs.List.{list_any}
use Rattle.std.proofs.lemmas.Bool.{true≢false, cases_eq, cases_Bool, leb-false, not-false, not-true}
use Rattle.model_tree.specs.declared.status.Status.TheVariants as status
use Rattle.model_tree.specs.Rights.AclLaws.{ModesKeepLimits, InheritanceKeepsLimits}
use Rattle.model_tree.specs.Trees.Changes.{touched, made_edits, acl_of}
use Rattle.model.specs.Operations.Context.{is_same_name}
use Rattle.model_tree.specs.Trees.Tree.{number_named, Tree, Node, is_directory, is_directory_node, is_directory_at}
use Rattle.model_tree.specs.Trees.Edit.{altered, altered_at, showing, name_put, edited}
use Rattle.model.specs.Operations.Files.{has_bytes, write}
use Rattle.model_tree.specs.Trees.Keyed.{at, is_key, with, without, IsAbove}
use Rattle.model_tree.specs.declared.limits.Limits.{Limits}
use Rattle.model.specs.Operations.Open.{creates, makes_file, cuts_file, file_opened, asked_open, opening_done, with_file, opening_refusals, share_refusals, place_refusals, known_refusals, new_refusals, new_file, given_by, closed_by, middle_at_open, name_opening_refusals}
use Rattle.model.specs.Sessions.Opens.{Opens, Open, no_opens}
use Rattle.model.specs.Sessions.OpensLaws.{AreOpens, KeepsOpens, EveryStepKeepsOpens}
use Rattle.model.specs.Operations.Operation.{Argument, RenameArguments, SetAttrArguments, WriteArguments, OpenArguments, OpenType, NoCreate, Unchecked, Guarded, ByName, ByHandle, OtherClaim, Opening, Opens as Opening_of, Exclusive, NewDirectory, OtherType}
use Rattle.model_tree.specs.Refusals.Refusal.{first_refusal}
use Rattle.model.specs.Operations.SetAttr.{sets, set_attributes}
use Rattle.model.specs.Sessions.StateIds.{Found, Anonymous, Refused, Names, found, is_like, open_like, upgraded, opened, opened_by, is_table_full, without_number, without_clients}
use Rattle.model.specs.Operations.Step.{State, Stepped, current, stamp_of, current_refusals, is_name_there, alters, effect, rename, target_number}
use Rattle.model.specs.Operations.StepLaws.{IsSound}
use Rattle.model_tree.proofs.Trees.ChangeLaws.{is_file_node}
use Rattle.model.proofs.Operations.FileStepLaws.{named_key, current_key, opening_changed, opening_leaves}
use Rattle.model_tree.proofs.Trees.KeyedLaws.{at-above, at-with_same, at-with_other, at-without_same, at-without_other, IsAbove-with, IsAbove-without, some≢none}
use Rattle.model_tree.proofs.Trees.KeyedParts.{IsAbove-filter, length-filter, at-filter, length-with_new, length-with_same, length-without, find-at}
use Rattle.model.proofs.Operations.StepCases.{Passes, does_cases}
use Rattle.model.proofs.Operations.StepProofs.{gone_by, effect_changes, outcome_cases, effect_leaves, effect_refused}
use Rattle.model.proofs.Operations.RefusalLaws.{none_earlier, none_in_both}

-- Files

file_node : (o : Option Node) → is_some o ≡ true → is_directory_node o ≡ false → is_file_node o ≡ true
file_node None key no_directory = absurd (true≢false (sym key))
file_node (Some node) key no_directory = ap not no_directory

file_key : (o : Option Node) → is_file_node o ≡ true → (is_some o ≡ true) × (is_directory_node o ≡ false)
file_key None file = absurd (true≢false (sym file))
file_key (Some node) file = (refl, not-true (is_directory node.content) file)
  where
    not-true : (b : Bool) → not b ≡ true → b ≡ false
    not-true true is = sym is
    not-true false is = refl

-- The same opens over the same tree, and fewer of them over a changed one

keeps_same : (limits : Limits) (state after : State) → AreOpens limits state.tree state.opens → after.tree ≡ state.tree → after.opens ≡ state.opens → AreOpens limits after.tree after.opens
keeps_same limits state after are tree opens = record {
  rising = rw opens are.rising;
  given = rw opens are.given;
  nodes = rw (tree, opens) are.nodes;
  files = rw (tree, opens) are.files;
  few = rw opens are.few;
}

-- each of these opens was there, and not on this number
record AreOf (old new : Opens) (gone : ℕ) : Type 0 where
  pub rising : IsAbove 0 new.known
  pub each : (serial : ℕ) (known : Open) → at serial new.known ≡ Some known → (at serial old.known ≡ Some known) × (known.number ≢ gone)
  pub few : length new.known ≤ length old.known
  pub given : new.given ≡ old.given

keeps_fewer : (limits : Limits) (state after : State) → AreOpens limits state.tree state.opens → (gone : ℕ) → AreOf state.opens after.opens gone
    → ((number : ℕ) → number ≢ gone → is_file_node (at number state.tree) ≡ true → is_file_node (at number after.tree) ≡ true) → AreOpens limits after.tree after.opens
keeps_fewer limits state after are gone of files =
    let stays : (serial : ℕ) (known : Open) → at serial after.opens.known ≡ Some known
    → (is_key known.number after.tree ≡ true) × (is_directory_at after.tree known.number ≡ false)
    = λ serial known there.
    let was = of.each serial known there in
    file_key (at known.number after.tree) (files known.number was.1
    (file_node (at known.number state.tree) (are.nodes serial known was.0) (are.files serial known was.0))) in
    record {
      rising = of.rising;
      given = λ serial known there. let low = are.given serial known (of.each serial known there).0 in let same = of.given in omega arith;
      nodes = λ serial known there. (stays serial known there).0;
      files = λ serial known there. (stays serial known there).1;
      few = let most = are.few in let fewer = of.few in omega arith;
    }

-- no node has the number 0
none_at_zero : (limits : Limits) (state : State) → IsSound limits state → (number : ℕ) → is_key number state.tree ≡ true → number ≢ 0
none_at_zero limits state sound number key same = by_node (at number state.tree) refl key
  where
    by_node : (o : Option Node) → at number state.tree ≡ o → is_some o ≡ true → ⊥
    by_node None there is = true≢false (sym is)
    by_node (Some node) there is =
        let high : 0 < number = at-above state.tree 0 number node sound.well_formed.numbered there in absurd (omega (arith, high, same))

all_of : (limits : Limits) (state : State) → IsSound limits state → AreOpens limits state.tree state.opens → AreOf state.opens state.opens 0
all_of limits state sound are = record {
  rising = are.rising;
  each = λ serial known there. (there, none_at_zero limits state sound known.number (are.nodes serial known there));
  few = omega arith;
  given = refl;
}

without_of : (limits : Limits) (state : State) (number : ℕ) → AreOpens limits state.tree state.opens → AreOf state.opens (without_number number state.opens) number
without_of limits state number are = record {
  rising = IsAbove-filter keeps state.opens.known 0 are.rising;
  each = λ serial known there.
      let was = at-filter keeps state.opens.known 0 serial known are.rising there in
      (was.0, λ same. true≢false (sym was.1 ∙ ap not (eq-eqb known.number number same)));
  few = length-filter keeps state.opens.known;
  given = refl;
}
  where
    keeps : ℕ × Open → Bool
    keeps entry = not (entry.1.number == number)

-- CLOSE
closes : (limits : Limits) (state after : State) → AreOpens limits state.tree state.opens → after.tree ≡ state.tree → (of : Found) → after.opens ≡ closed_by of state.opens
    → KeepsOpens limits state after
closes limits state after are tree Anonymous opens = record { opens = keeps_same limits state after are tree opens; counts = rw opens (omega arith) }
closes limits state after are tree (Refused reason) opens = record { opens = keeps_same limits state after are tree opens; counts = rw opens (omega arith) }
closes limits state after are tree (Names serial known) opens = record {
  opens =
      let each : (other : ℕ) (of : Open) → at other (without state.opens.known serial) ≡ Some of → at other state.opens.known ≡ Some of
      = λ other of there. elim (cases_eq other serial) [
        | inl one ↦ absurd (some≢none of (sym there ∙ (ap (λ k. at k (without state.opens.known serial)) one ∙ at-without_same state.opens.known serial)))
        | inr apart ↦ sym (at-without_other state.opens.known serial other apart) ∙ there
      ] in
      record {
        rising = rw opens (IsAbove-without state.opens.known serial 0 are.rising);
        given = rw opens (λ other of there. are.given other of (each other of there));
        nodes = rw (tree, opens) (λ other of there. are.nodes other of (each other of there));
        files = rw (tree, opens) (λ other of there. are.files other of (each other of there));
        few = rw opens (let fewer = length-without state.opens.known serial are.rising in let most = are.few in omega arith);
      };
  counts = rw opens (omega arith);
}

-- OPEN: one more open, or one that is joined, on a file of the tree that is left
opens_one : (limits : Limits) (state after : State) (asked : Open) → AreOpens limits state.tree state.opens
    → ((serial : ℕ) (known : Open) → at serial state.opens.known ≡ Some known
    → (is_key known.number after.tree ≡ true) × (is_directory_at after.tree known.number ≡ false))
    → (is_key asked.number after.tree ≡ true) × (is_directory_at after.tree asked.number ≡ false)
    → (joins : Option (ℕ × Open)) → open_like state.opens asked ≡ joins → is_table_full limits.opens state.opens asked ≡ false
    → after.opens ≡ (opened_by state.opens asked joins).opens → KeepsOpens limits state after
opens_one limits state after asked are stay file (Some entry) like room opens =
    let known = state.opens.known in
    let found = find-at (is_like asked) known 0 entry are.rising like in
    let now = upgraded asked.access entry.1 in
    let each : (serial : ℕ) (of : Open) → at serial (with known entry.0 now) ≡ Some of
    → (serial ≤ state.opens.given) × (is_key of.number after.tree ≡ true) × (is_directory_at after.tree of.number ≡ false)
    = λ serial of there. elim (cases_eq serial entry.0) [
      | inl one ↦
          let same : now ≡ of = one_open now of (sym (at-with_same known entry.0 now) ∙ (sym (ap (λ k. at k (with known entry.0 now)) one) ∙ there)) in
          let number : entry.1.number ≡ of.number = ap (λ (o : Open). o.number) same in
          let was = stay entry.0 entry.1 found.0 in
          let low = are.given entry.0 entry.1 found.0 in
          (omega (arith, one, low), ap (λ n. is_key n after.tree) (sym number) ∙ was.0, ap (is_directory_at after.tree) (sym number) ∙ was.1)
      | inr apart ↦
          let there_before = sym (at-with_other known entry.0 serial now apart) ∙ there in
          let was = stay serial of there_before in
          (are.given serial of there_before, was.0, was.1)
    ] in
    record {
      opens = record {
        rising = rw opens (IsAbove-with known entry.0 0 now are.rising (at-above known 0 entry.0 entry.1 are.rising found.0));
        given = rw opens (λ serial of there. (each serial of there).0);
        nodes = rw opens (λ serial of there. (each serial of there).1);
        files = rw opens (λ serial of there. (each serial of there).2);
        few = rw opens (let same = length-with_same known entry.0 entry.1 now are.rising found.0 in let most = are.few in omega arith);
      };
      counts = rw opens (omega arith);
    }
  where
    one_open : (x y : Open) → Some x ≡ Some y → x ≡ y
    one_open x y same = cc
opens_one limits state after asked are stay file None like room opens =
    let known = state.opens.known in
    let next = state.opens.given + 1 in
    let each : (serial : ℕ) (of : Open) → at serial (with known next asked) ≡ Some of
    → (serial ≤ next) × (is_key of.number after.tree ≡ true) × (is_directory_at after.tree of.number ≡ false)
    = λ serial of there. elim (cases_eq serial next) [
      | inl one ↦
          let same : asked ≡ of = one_open asked of (sym (at-with_same known next asked) ∙ (sym (ap (λ k. at k (with known next asked)) one) ∙ there)) in
          let number : asked.number ≡ of.number = ap (λ (o : Open). o.number) same in
          (omega (arith, one), ap (λ n. is_key n after.tree) (sym number) ∙ file.0, ap (is_directory_at after.tree) (sym number) ∙ file.1)
      | inr apart ↦
          let there_before = sym (at-with_other known next serial asked apart) ∙ there in
          let was = stay serial of there_before in
          let low = are.given serial of there_before in
          (omega (arith, low), was.0, was.1)
    ] in
    let free : nat_le limits.opens (length known) ≡ false = first_false (nat_le limits.opens (length known)) _
    (ap (λ (o : Option (ℕ × Open)). is_none o && (nat_le limits.opens (length known) || nat_le (2 ^ 64 - 1) state.opens.given)) (sym like) ∙ room) in
    record {
      opens = record {
        rising = rw opens (IsAbove-with known next 0 asked are.rising (omega arith));
        given = rw opens (λ serial of there. (each serial of there).0);
        nodes = rw opens (λ serial of there. (each serial of there).1);
        files = rw opens (λ serial of there. (each serial of there).2);
        few = rw opens (let more = length-with_new known next asked are.rising in let below = leb-false limits.opens (length known) free in omega arith);
      };
      counts = rw opens (omega arith);
    }
  where
    one_open : (x y : Open) → Some x ≡ Some y → x ≡ y
    one_open x y same = cc

    first_false : (a b : Bool) → (a || b) ≡ false → a ≡ false
    first_false true b is = is
    first_false false b is = refl

-- the file that an opening opens is one in the tree that it leaves

elsewhere : (change : Node → Node) (tree : Tree) (place number : ℕ) → number ≢ place → at number (altered change tree place) ≡ at number tree
elsewhere change tree place number apart = by_node (at place tree)
  where
    by_node : (o : Option Node) → at number (altered_at change tree place o) ≡ at number tree
    by_node None = refl
    by_node (Some node) = at-with_other tree place number (change node) apart

made_there : (tree : Tree) (place stamp now : ℕ) (name : List ℕ) (node : Node) → stamp ≢ place
    → at stamp (edited (made_edits tree place name node stamp now) tree) ≡ Some node
made_there tree place stamp now name node apart =
    let named = altered (name_put stamp (record { name = name; number = stamp })) (with tree stamp node) place in
    elsewhere (showing (touched (at place tree) stamp now)) named place stamp apart
    ∙ (elsewhere (name_put stamp (record { name = name; number = stamp })) (with tree stamp node) place stamp apart
    ∙ at-with_same tree stamp node)

module _ (modes : ModesKeepLimits) (inheritance : InheritanceKeepsLimits) (limits : Limits) (state : State) (now : ℕ) (arguments : OpenArguments)
    (passes : Passes limits state now (Argument.Open arguments)) (sound : IsSound limits state) where
  abbrev left : Opening → Tree
  left opening = (opening_done state now opening).tree

  -- files that are there stay
  stays_file : (opening : Opening) → arguments.opening ≡ opening → (number : ℕ) → is_key number state.tree ≡ true → is_directory_at state.tree number ≡ false
      → (is_key number (left opening) ≡ true) × (is_directory_at (left opening) number ≡ false)
  stays_file opening same number key no_directory = elim (cases_Bool (makes_file state opening || cuts_file state opening)) [
    | inl is ↦ file_key (at number (left opening))
        ((opening_changed modes inheritance limits state now arguments opening same passes sound is).0.files number
        (none_at_zero limits state sound number key) (file_node (at number state.tree) key no_directory))
    | inr none ↦
        let tree : left opening ≡ state.tree = ap (λ (s : State). s.tree) (opening_leaves state now opening none) in
        (ap (is_key number) tree ∙ key, ap (λ t. is_directory_at t number) tree ∙ no_directory)
  ]

  tested : first_refusal (current_refusals state) ≡ None
  tested = (none_in_both (current_refusals state)
      (opening_refusals arguments.opening ++ (share_refusals arguments ++ place_refusals limits state arguments.opening)) passes.early).0

  placed : (first_refusal (opening_refusals arguments.opening) ≡ None) × (first_refusal (place_refusals limits state arguments.opening) ≡ None)
  placed =
      let tests = none_in_both (current_refusals state)
      (opening_refusals arguments.opening ++ (share_refusals arguments ++ place_refusals limits state arguments.opening)) passes.early in
      let opening = none_in_both (opening_refusals arguments.opening) (share_refusals arguments ++ place_refusals limits state arguments.opening) tests.1 in
      (opening.0, (none_in_both (share_refusals arguments) (place_refusals limits state arguments.opening) opening.1).1)

  known_file : (how : OpenType) (number : ℕ) → first_refusal (known_refusals limits state number how) ≡ None → is_directory_at state.tree number ≡ false
  known_file NoCreate number passed = (none_earlier (is_directory_at state.tree number) status.IsDir None passed).0
  known_file (Unchecked given) number passed = (none_earlier (is_directory_at state.tree number) status.IsDir _ passed).0
  known_file (Guarded given) number passed = absurd (some≢none status.Exist passed)

  -- by a name, whether it is there
  named_file : (how : OpenType) (name : List ℕ) → arguments.opening ≡ Opening_of how (ByName name) → (there : Bool) → is_name_there state name ≡ there
      → first_refusal (if there then known_refusals limits state (number_named state.tree (current state) name) how else new_refusals limits how) ≡ None
      → (is_key (if there then number_named state.tree (current state) name else stamp_of state) (left (Opening_of how (ByName name))) ≡ true)
      × (is_directory_at (left (Opening_of how (ByName name))) (if there then number_named state.tree (current state) name else stamp_of state) ≡ false)
  named_file how name same true there passed =
      stays_file (Opening_of how (ByName name)) same (number_named state.tree (current state) name)
      (named_key modes inheritance limits state now sound name there) (known_file how (number_named state.tree (current state) name) passed)
  named_file how name same false there passed =
      let file : Node = new_file state.context.cred (acl_of (at (current state) state.tree)) (given_by how) (stamp_of state) now in
      let node = key_node (at (current state) state.tree) (current_key state tested) in
      let low : current state < stamp_of state = sound.before.number (current state) node.0 node.1 in
      let made : at (stamp_of state) (with_file false state now how name).tree ≡ Some file
      = made_there state.tree (current state) (stamp_of state) now name file (omega (arith, low)) in
      let tree : left (Opening_of how (ByName name)) ≡ (with_file false state now how name).tree
      = ap (λ b. (with_file b state now how name).tree) there in
      let here : at (stamp_of state) (left (Opening_of how (ByName name))) ≡ Some file = ap (at (stamp_of state)) tree ∙ made in
      (ap is_some here, ap is_directory_node here)
    where
      key_node : (o : Option Node) → is_some o ≡ true → (node : Node) × (o ≡ Some node)
      key_node None key = absurd (true≢false (sym key))
      key_node (Some node) key = (node, refl)

  opened_file : (opening : Opening) → arguments.opening ≡ opening
      → (is_key (file_opened state opening) (left opening) ≡ true) × (is_directory_at (left opening) (file_opened state opening) ≡ false)
  opened_file (Exclusive mode) same = absurd (some≢none status.NotSupp (ap (λ (o : Opening). first_refusal (opening_refusals o)) (sym same) ∙ placed.0))
  opened_file (Opening_of how (OtherClaim claim)) same =
      absurd (some≢none status.NotSupp (ap (λ (o : Opening). first_refusal (opening_refusals o)) (sym same) ∙ placed.0))
  opened_file (Opening_of how ByHandle) same =
      let place : first_refusal (place_refusals limits state (Opening_of how ByHandle)) ≡ None
      = ap (λ (o : Opening). first_refusal (place_refusals limits state o)) (sym same) ∙ placed.1 in
      let creating = none_earlier (creates how) status.Inval _ place in
      (current_key state tested, (none_earlier (is_directory_at state.tree (current state)) status.IsDir None creating.1).0)
  opened_file (Opening_of how (ByName name)) same =
      let middle : first_refusal (name_opening_refusals limits state how name) ≡ None
      = ap (λ (o : Opening). first_refusal (middle_at_open limits state o)) (sym same) ∙ passes.middle in
      named_file how name same (is_name_there state name) refl middle

  pub open_keeps : AreOpens limits state.tree state.opens → KeepsOpens limits state (effect limits state now (Argument.Open arguments)).state
  unfolding effect opened
  open_keeps are =
      let room = none_earlier (is_table_full limits.opens state.opens (asked_open state arguments)) status.Delay None passes.late in
      opens_one limits state (effect limits state now (Argument.Open arguments)).state (asked_open state arguments) are
      (λ serial known there. stays_file arguments.opening refl known.number (are.nodes serial known there) (are.files serial known there))
      (opened_file arguments.opening refl) (open_like state.opens (asked_open state arguments)) refl room.0 refl

-- The other operations: none gives a serial, and REMOVE and RENAME end opens

abbrev is_other : Argument → Bool
is_other (Argument.Open arguments) = false
is_other (Argument.Close arguments) = false
is_other _ = true

pub set_opens : (some : Bool) (state : State) (now : ℕ) (arguments : SetAttrArguments) → (set_attributes some state now arguments).state.opens ≡ state.opens
set_opens true state now arguments = refl
set_opens false state now arguments = refl

pub write_opens : (some : Bool) (limits : Limits) (state : State) (now : ℕ) (arguments : WriteArguments) → (write some limits state now arguments).state.opens ≡ state.opens
write_opens true limits state now arguments = refl
write_opens false limits state now arguments = refl

rename_opens : (same : Bool) (state : State) (now : ℕ) (arguments : RenameArguments) → same ≡ true → (rename same state now arguments).state.opens ≡ state.opens
rename_opens true state now arguments is = refl
rename_opens false state now arguments is = absurd (true≢false (sym is))

rename_fewer : (limits : Limits) (same : Bool) (state : State) (now : ℕ) (arguments : RenameArguments) → same ≡ false → AreOpens limits state.tree state.opens
    → AreOf state.opens (rename same state now arguments).state.opens (target_number state arguments)
rename_fewer limits true state now arguments is are = absurd (true≢false is)
rename_fewer limits false state now arguments is are = without_of limits state (target_number state arguments) are

same_opens : (limits : Limits) (state : State) (now : ℕ) (operation : Argument) → is_other operation ≡ true → alters state operation ≡ false
    → (effect limits state now operation).state.opens ≡ state.opens
unfolding effect
same_opens limits state now (Argument.Open arguments) other none = absurd (true≢false (sym other))
same_opens limits state now (Argument.Close arguments) other none = absurd (true≢false (sym other))
same_opens limits state now (Argument.Create (NewDirectory name given)) other none = refl
same_opens limits state now (Argument.Create (OtherType number)) other none = refl
same_opens limits state now (Argument.Remove name) other none = absurd (true≢false none)
same_opens limits state now (Argument.Rename arguments) other none =
    rename_opens (is_same_name state.context arguments) state now arguments (not-false (is_same_name state.context arguments) none)
same_opens limits state now (Argument.SetAttr arguments) other none = set_opens (sets arguments) state now arguments
same_opens limits state now (Argument.Write arguments) other none = write_opens (has_bytes arguments) limits state now arguments
same_opens limits state now _ other none = refl

fewer_opens : (limits : Limits) (state : State) (now : ℕ) (operation : Argument) → IsSound limits state → AreOpens limits state.tree state.opens → is_other operation ≡ true
    → alters state operation ≡ true → AreOf state.opens (effect limits state now operation).state.opens (gone_by state operation)
unfolding effect
fewer_opens limits state now (Argument.Open arguments) sound are other is = absurd (true≢false (sym other))
fewer_opens limits state now (Argument.Create (NewDirectory name given)) sound are other is = all_of limits state sound are
fewer_opens limits state now (Argument.Create (OtherType number)) sound are other is = all_of limits state sound are
fewer_opens limits state now (Argument.Remove name) sound are other is = without_of limits state (number_named state.tree (current state) name) are
fewer_opens limits state now (Argument.Rename arguments) sound are other is =
    rename_fewer limits (is_same_name state.context arguments) state now arguments (not-true (is_same_name state.context arguments) is) are
fewer_opens limits state now (Argument.SetAttr arguments) sound are other is =
    subst (λ (o : Opens). AreOf state.opens o 0) (sym (set_opens (sets arguments) state now arguments)) (all_of limits state sound are)
fewer_opens limits state now (Argument.Write arguments) sound are other is =
    subst (λ (o : Opens). AreOf state.opens o 0) (sym (write_opens (has_bytes arguments) limits state now arguments)) (all_of limits state sound are)
fewer_opens limits state now _ sound are other is = absurd (true≢false (sym is))

module _ (modes : ModesKeepLimits) (inheritance : InheritanceKeepsLimits) where
  others_keep : (limits : Limits) (state : State) (now : ℕ) (operation : Argument) → Passes limits state now operation → IsSound limits state
      → AreOpens limits state.tree state.opens → is_other operation ≡ true → KeepsOpens limits state (effect limits state now operation).state
  others_keep limits state now operation passes sound are other = elim (cases_Bool (alters state operation)) [
    | inr none ↦
        let same = same_opens limits state now operation other none in
        record {
          opens = keeps_same limits state (effect limits state now operation).state are (effect_leaves limits state now operation none).0 same;
          counts = rw same (omega arith);
        }
    | inl is ↦ elim (outcome_cases modes inheritance (effect limits state now operation).outcome) [
      | inl done ↦
          let changes = effect_changes modes inheritance limits state now operation passes sound is done.0 done.1 in
          let fewer = fewer_opens limits state now operation sound are other is in
          record {
            opens = keeps_fewer limits state (effect limits state now operation).state are (gone_by state operation) fewer changes.0.files;
            counts = let same = fewer.given in omega arith;
          }
      | inr not_done ↦ subst (KeepsOpens limits state) (sym (effect_refused modes inheritance limits state now operation not_done.0 not_done.1 not_done.2))
          (record { opens = are; counts = omega arith })
    ]
  ]

  effect_keeps : (limits : Limits) (state : State) (now : ℕ) (operation : Argument) → Passes limits state now operation → IsSound limits state
      → AreOpens limits state.tree state.opens → KeepsOpens limits state (effect limits state now operation).state
  unfolding effect
  effect_keeps limits state now (Argument.Open arguments) passes sound are = open_keeps modes inheritance limits state now arguments passes sound are
  effect_keeps limits state now (Argument.Close arguments) passes sound are =
      closes limits state (effect limits state now (Argument.Close arguments)).state are refl (found state.opens state.context arguments.state) refl
  effect_keeps limits state now operation passes sound are = others_keep limits state now operation passes sound are refl

  pub every_step_keeps : EveryStepKeepsOpens
  every_step_keeps limits state now operation sound are = elim (does_cases limits state now operation) [
    | inl went ↦ subst (λ (s : Stepped). KeepsOpens limits state s.state) (sym went.1) (effect_keeps limits state now operation went.0 sound are)
    | inr not_gone ↦ subst (λ (s : Stepped). KeepsOpens limits state s.state) (sym not_gone.1) (record { opens = are; counts = omega arith })
  ]

-- no opens, and the opens except those of clients that end

pub no_opens_are : (limits : Limits) (tree : Tree) → AreOpens limits tree no_opens
no_opens_are limits tree = record {
  rising = tt;
  given = λ serial known there. absurd (some≢none known (sym there));
  nodes = λ serial known there. absurd (some≢none known (sym there));
  files = λ serial known there. absurd (some≢none known (sym there));
  few = omega arith;
}

pub clients_end : (limits : Limits) (tree : Tree) (opens : Opens) (clients : List ℕ) → AreOpens limits tree opens
    → AreOpens limits tree (without_clients clients opens)
clients_end limits tree opens clients are =
    let was : (serial : ℕ) (known : Open) → at serial (filter keeps opens.known) ≡ Some known → at serial opens.known ≡ Some known
    = λ serial known there. (at-filter keeps opens.known 0 serial known are.rising there).0 in
    record {
      rising = IsAbove-filter keeps opens.known 0 are.rising;
      given = λ serial known there. are.given serial known (was serial known there);
      nodes = λ serial known there. are.nodes serial known (was serial known there);
      files = λ serial known there. are.files serial known (was serial known there);
      few = let fewer = length-filter keeps opens.known in let most = are.few in omega arith;
    }
  where
    keeps : ℕ × Open → Bool
    keeps entry = not (list_any (λ client. entry.1.client == client) clients)
