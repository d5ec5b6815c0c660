use Rattle.std.proofs.Common.{◌≡◌, ◌≤◌, ◌+◌, ◌*◌, ◌∙◌, ℕ, false, List, Option, length, refl, sym, ap, subst, arith}
use Rattle.std.specs.Prelude.{IsTrue, Err}
use Rattle.tree_transaction.specs.Updates.{AreTreeUpdates}
use Rattle.tree_transaction.specs.Whole.{bitmap_sectors}
use Rattle.tree_edits.specs.Outcomes.{ComesTo, IsWholeVolume, cached_nodes_after}
use Rattle.tree_edits.proofs.BlankLaws.{each_outline}
use Rattle.disk.specs.Moments.{moment}
use Rattle.journal.specs.Calls.{IsSafe, HasApplied}
use Rattle.journal.specs.Journal.{log_of, journal_failures}
use Rattle.journal.specs.Layout.{AreTargets, targets}
use Rattle.journal.specs.declared.layout.LogArea.{LogArea}
use Rattle.journal.specs.Log.{Log, AnswersByDevice, MakesAtMost, contents}
use Rattle.journal.proofs.Journals.{takes_enough}
use Rattle.layout.specs.CachedNodes.{CachedNode}
use Rattle.layout.specs.Health.{Health}
use Rattle.layout.specs.declared.versions.Marking.{Marking}
use Rattle.layout.specs.Versions.{data_end_by, limits_by, log_by, size_by}
use Rattle.model_tree.specs.Trees.Charge.{fits}
use Rattle.volume.specs.Changes.{Done, VolumeChanges}
use Rattle.volume.specs.ParentIndex.{AreParents}
use Rattle.volume.specs.Edits.{IsEdited, edited_by, put_by}
use Rattle.volume.specs.Parents.{PutsParent}
use Rattle.volume.specs.Formed.{IsFormed, ShowsTree}
use Rattle.volume.specs.Known.{AreKnownNodes, IsServing}
use Rattle.volume.specs.Refusals.{fault_of}
use Rattle.volume.specs.Views.{volume_state_by, volume_state, volume_failures}
use Rattle.volume.specs.VolumeState.{with_tree}
use Rattle.volume.proofs.ApplyLaws.{applied_serves, applied_tree, apply_done, apply_refused, refused_up}
use Rattle.volume.proofs.ChangeLaws.{behind_serving, ends_below, few_bitmap, formed_after, journal_targets, known_after, log_same, may_settle, outline_after, parents_behind, whole_now, whole_volume}
use Rattle.volume.proofs.EditLaws.{prefix_room, outline_doable, outline_few}
use Rattle.volume.proofs.ServeLaws.{flush_costs, is_err_of}
use Rattle.volume.proofs.StandLaws.{placed_on}
use Rattle.model_tree.specs.Trees.Stamp.{stamp}
use Rattle.tree_edits.specs.Outlines.{tree_without_data}
use Rattle.volume.proofs.KeepLaws.{left}
use Rattle.volume.proofs.volume.Volume.change_fitting.Goals as goal

pub returns-then-is_down-clause-volume : goal.returns-then-is_down-clause-volume
returns-then-is_down-clause-volume g c = left g.D.Device.keeps_word _ (volume_state c.args.self.now) (volume_failures c.args.self.now)

pub returns-in_err-apply-clause-shows : goal.returns-in_err-apply-clause-shows
returns-in_err-apply-clause-shows g c = rw (is_err_of c.from_residual-in_err-apply.result (fault_of c.in_err-apply.field-0.0) c.from_residual-in_err-apply.ensures.1) (tt)

pub outcome_of-requires-clause-whole : goal.outcome_of-requires-clause-whole
outcome_of-requires-clause-whole g c =
    let volume = c.args.self.now in
    let log : Log = log_of volume.store.journal in
    subst (λ (marking : Marking). IsWholeVolume marking log.size volume.table volume.places) (sym c.marking.ensures)
    (whole_volume volume.version log.size volume.limits.nodes volume.table volume.places volume.served volume.sized volume.known)

pub outcome_of-requires-clause-can : goal.outcome_of-requires-clause-can
unfolding volume_state
outcome_of-requires-clause-can g c =
    let volume = c.args.self.now in
    let log : Log = log_of volume.store.journal in
    outline_doable (volume_state_by volume.version volume.limits volume.run volume.table log) c.args.edits.now c.requires.change (contents log) volume.table refl

pub outcome_of-requires-clause-few : goal.outcome_of-requires-clause-few
unfolding volume_state
outcome_of-requires-clause-few g c =
    let volume = c.args.self.now in
    let log : Log = log_of volume.store.journal in
    let held = volume_state_by volume.version volume.limits volume.run volume.table log in
    outline_few held c.args.edits.now c.requires.change (contents log) volume.table refl volume.version volume.served log.size volume.limits.nodes _ volume.limited volume.known.whole
    c.requires.fitting

pub outcome_of-requires-clause-room : goal.outcome_of-requires-clause-room
unfolding volume_state
outcome_of-requires-clause-room g c = λ count within.
    let volume = c.args.self.now in
    let log : Log = log_of volume.store.journal in
    let held = volume_state_by volume.version volume.limits volume.run volume.table log in
    let room = prefix_room held c.args.edits.now c.requires.change (contents log) volume.table refl volume.version volume.served log.size volume.limits.nodes _ volume.limited volume.known.whole
    c.requires.fitting count in
    let nodes = room.1 in
    record { charge = room.0; nodes = omega (arith, nodes, volume.known.are_cached_nodes.count) }

pub apply-requires : goal.apply-requires
apply-requires g c =
    let volume = c.args.self.now in
    let old : Log = log_of volume.store.journal in
    let updates = c.in_ok-outcome.outcome.updates.items in
    subst (λ (n : ℕ). AreTargets n (targets updates))
    (ap (λ (area : LogArea). area.end) (sym volume.placed) ∙ ap (λ (log : Log). log.area.end) (sym c.in_ok-outcome.ensures.kept))
    (journal_targets (data_end_by volume.version old.size) (log_by volume.version old.size).end updates (ends_below volume.version old.size volume.limits.nodes volume.served volume.sized)
    (subst (λ (n : ℕ). AreTreeUpdates n updates) (sym (whole_now volume.known)) c.in_ok-outcome.ensures.done.targets))

pub settle-requires : goal.settle-requires
unfolding volume_state
settle-requires g c =
    let volume = c.args.self.now in
    let log : Log = log_of volume.store.journal in
    let edits = c.args.edits.now in
    let outcome = c.in_ok-outcome.outcome in
    let comes = subst (λ (marking : Marking). ComesTo g.D.Device.keeps_word marking (contents log) log.size volume.table volume.places edits outcome) c.marking.ensures c.in_ok-outcome.ensures.done in
    may_settle g.D.Device.keeps_word volume.version volume.limits volume.run log volume.table volume.places edits outcome c.requires.change volume.known comes

pub returns-in_err-apply-clause-volume : goal.returns-in_err-apply-clause-volume
unfolding volume_state volume_failures
returns-in_err-apply-clause-volume g c =
    let word = g.D.Device.keeps_word in
    let volume = c.args.self.now in
    let old : Log = log_of volume.store.journal in
    let mid : Log = log_of c.outcome_of.new.base.journal in
    let new : Log = log_of c.apply.new.self in
    let fault = c.in_err-apply.field-0.0 in
    let health = c.in_ok-outcome.ensures.health.stays (λ faulted. cc) in
    let same : mid ≡ old = log_same old mid c.in_ok-outcome.ensures.kept (ap (λ (h : Health). h.is_down) health) in
    let failed : journal_failures c.outcome_of.new.base.journal ≡ journal_failures volume.store.journal = ap (λ (h : Health). h.failed) health in
    let told = is_err_of c.from_residual-in_err-apply.result (fault_of fault) c.from_residual-in_err-apply.ensures.1 in
    let up : old.is_down ≡ false = sym c.is_down.ensures ∙ c.if-is_down.false in
    let short : length c.in_ok-outcome.outcome.updates.items ≤ 48 =
    omega (arith, c.requires.change.few, c.in_ok-outcome.ensures.done.count, ap bitmap_sectors c.marking.ensures, few_bitmap volume.version) in
    rw told (apply_refused word volume.version volume.limits volume.run volume.table old new (with_tree (volume_state_by volume.version volume.limits volume.run volume.table old) (edited_by (volume_state_by volume.version volume.limits volume.run volume.table old) c.args.edits.now)) _ _ fault
    (subst (λ (log : Log). IsSafe word log new) same c.in_err-apply.ensures.safe) volume.placed up
    (λ many. (let bound = (c.in_err-apply.ensures.too_many (ap (λ (log : Log). log.is_down) same ∙ up)).0 (ap (λ x. Err x) many) in omega (arith, bound, short, takes_enough c.outcome_of.new.base.journal)))
    (subst (λ (log : Log). AnswersByDevice {T = Unit {0}} log new (journal_failures volume.store.journal) (journal_failures c.apply.new.self) (Err fault)) same
    (subst (λ (n : ℕ). AnswersByDevice {T = Unit {0}} mid new n (journal_failures c.apply.new.self) (Err fault)) failed c.in_err-apply.ensures.answers))
    c.in_err-apply.ensures.refuses)

pub returns-in_err-apply-clause-brief : goal.returns-in_err-apply-clause-brief
unfolding volume_state
returns-in_err-apply-clause-brief g c = λ k.
    let old : Log = log_of c.args.self.now.store.journal in
    let mid : Log = log_of c.outcome_of.new.base.journal in
    let new : Log = log_of c.apply.new.self in
    let health = c.in_ok-outcome.ensures.health.stays (λ faulted. cc) in
    let same : mid ≡ old = log_same old mid c.in_ok-outcome.ensures.kept (ap (λ (h : Health). h.is_down) health) in
    flush_costs c.args.self.now.version old.area old.size (moment old.history) (moment new.history) c.args.self.now.placed
    (subst (λ (log : Log). MakesAtMost (2 * (log.area.sectors + 3)) log new) same (c.in_err-apply.ensures.safe.brief k))

pub returns-clause-brief : goal.returns-clause-brief
unfolding volume_state
returns-clause-brief g c = λ k.
    let old : Log = log_of c.args.self.now.store.journal in
    let mid : Log = log_of c.outcome_of.new.base.journal in
    let new : Log = log_of c.apply.new.self in
    let health = c.in_ok-outcome.ensures.health.stays (λ faulted. cc) in
    let same : mid ≡ old = log_same old mid c.in_ok-outcome.ensures.kept (ap (λ (h : Health). h.is_down) health) in
    flush_costs c.args.self.now.version old.area old.size (moment old.history) (moment new.history) c.args.self.now.placed
    (subst (λ (log : Log). MakesAtMost (2 * (log.area.sectors + 3)) log new) same (c.in_ok-apply.ensures.safe.brief k))

pub returns-in_err-apply-clause-stays : goal.returns-in_err-apply-clause-stays
unfolding volume_state
returns-in_err-apply-clause-stays g c =
    let volume = c.args.self.now in
    let old : Log = log_of volume.store.journal in
    let new : Log = log_of c.apply.new.self in
    let told = is_err_of c.from_residual-in_err-apply.result (fault_of c.in_err-apply.field-0.0) c.from_residual-in_err-apply.ensures.1 in
    rw told (each_outline (contents new) volume.table ∙ sym (each_outline (contents old) volume.table))

pub invariant_of-self-in-Break-branch-2 : goal.invariant_of-self-in-Break-branch-2
invariant_of-self-in-Break-branch-2 g c =
    let volume = c.args.self.now in
    let old : Log = log_of volume.store.journal in
    let mid : Log = log_of c.outcome_of.new.base.journal in
    let new : Log = log_of c.apply.new.self in
    let nodes = volume.limits.nodes in
    let did = c.in_err-apply.ensures in
    let health = c.in_ok-outcome.ensures.health.stays (λ faulted. cc) in
    let same : mid ≡ old = log_same old mid c.in_ok-outcome.ensures.kept (ap (λ (h : Health). h.is_down) health) in
    let safe : IsSafe g.D.Device.keeps_word old new = subst (λ (log : Log). IsSafe g.D.Device.keeps_word log new) same did.safe in
    let size : old.size ≡ new.size = sym safe.size in
    record {
      bounded = volume.bounded;
      served = volume.served;
      sized = subst (λ (n : ℕ). IsTrue (size_by volume.version n nodes)) size volume.sized;
      placed = placed_on volume.version new.area old.area new.size old.size safe.area safe.size volume.placed;
      limited = volume.limited ∙ ap (λ (n : ℕ). limits_by volume.version n nodes) size;
      formed = volume.formed;
      known = subst (λ (n : ℕ). AreKnownNodes (data_end_by volume.version n) nodes volume.table volume.places) size volume.known;
      named = volume.named;
      serves = λ k up.
          let as_it_was : new ≡ old = refused_up mid new _ _ c.in_err-apply.field-0.0 did.answers did.unchanged did.refuses up ∙ same in
          subst (λ (log : Log). ∥ IsServing volume.version log nodes volume.run volume.table ∥₁) (sym as_it_was)
          (volume.serves k (ap (λ (log : Log). log.is_down) (sym as_it_was) ∙ up));
    }

pub invariant_of-self-2 : goal.invariant_of-self-2
unfolding volume_state
invariant_of-self-2 g c =
    let word = g.D.Device.keeps_word in
    let volume = c.args.self.now in
    let old : Log = log_of volume.store.journal in
    let mid : Log = log_of c.outcome_of.new.base.journal in
    let new : Log = log_of c.apply.new.self in
    let nodes = volume.limits.nodes in
    let held = volume_state_by volume.version volume.limits volume.run volume.table old in
    let edits = c.args.edits.now in
    let outcome = c.in_ok-outcome.outcome in
    let comes = subst (λ (marking : Marking). ComesTo word marking (contents old) old.size volume.table volume.places edits outcome) c.marking.ensures c.in_ok-outcome.ensures.done in
    let health = c.in_ok-outcome.ensures.health.stays (λ faulted. cc) in
    let same : mid ≡ old = log_same old mid c.in_ok-outcome.ensures.kept (ap (λ (h : Health). h.is_down) health) in
    let safe : IsSafe word old new = subst (λ (log : Log). IsSafe word log new) same c.in_ok-apply.ensures.safe in
    let has : HasApplied word outcome.updates.items old new = subst (λ (log : Log). HasApplied word outcome.updates.items log new) same c.in_ok-apply.ensures.ok in
    let size : old.size ≡ new.size = sym safe.size in
    let up : old.is_down ≡ false = sym c.is_down.ensures ∙ c.if-is_down.false in
    let fit : IsTrue (fits volume.limits (edited_by held edits)) =
    c.requires.fitting in
    let settled : cached_nodes_after volume.table outcome ≡ c.settle.new.self = sym c.settle.ensures in
    record {
      bounded = volume.bounded;
      served = volume.served;
      sized = subst (λ (n : ℕ). IsTrue (size_by volume.version n nodes)) size volume.sized;
      limited = volume.limited ∙ ap (λ (n : ℕ). limits_by volume.version n nodes) size;
      formed = subst (λ (cached_nodes : List (Option CachedNode)). IsFormed volume.limits (stamp (volume.run + 1) 0) (tree_without_data cached_nodes)) settled
          (formed_after word volume.version volume.limits volume.run old volume.table volume.places edits outcome c.requires.change volume.known comes fit);
      known = subst (λ (cached_nodes : List (Option CachedNode)). AreKnownNodes (data_end_by volume.version new.size) nodes cached_nodes outcome.places) settled
          (subst (λ (n : ℕ). AreKnownNodes (data_end_by volume.version n) nodes (cached_nodes_after volume.table outcome) outcome.places) size
          (known_after word volume.version volume.limits volume.run old volume.table volume.places edits outcome c.requires.change volume.known comes));
      placed = placed_on volume.version new.area old.area new.size old.size safe.area safe.size volume.placed;
      named = subst (λ (cached_nodes : List (Option CachedNode)). AreParents cached_nodes c.put_parent.new.parents) settled
          (parents_behind word volume.version volume.limits volume.run old volume.table volume.places edits outcome c.requires.change volume.known comes fit volume.parents c.put_parent.new.parents volume.named
          (subst (λ (cached_nodes : List (Option CachedNode)). PutsParent cached_nodes volume.parents c.put_parent.new.parents (put_by edits)) (sym settled)
          (subst (λ (put : Option (ℕ × ℕ)). PutsParent c.settle.new.self volume.parents c.put_parent.new.parents put)
          c.put_by-put.ensures c.put_parent.ensures)));
      serves = λ k is_up. subst (λ (cached_nodes : List (Option CachedNode)). ∥ IsServing volume.version new nodes volume.run cached_nodes ∥₁) settled
          (applied_serves word volume.version volume.limits volume.run volume.table (cached_nodes_after volume.table outcome) old new outcome.updates.items (with_tree held (edited_by held edits)) 0 0
          safe volume.placed (omega arith) is_up has (λ kept. volume.serves kept up)
          (λ kept. behind_serving word kept volume.version volume.served nodes volume.run old volume.table volume.places edits outcome volume.known.are_cached_nodes.count (whole_now volume.known) comes
          (subst (λ l. IsFormed l (stamp (volume.run + 1) 0) (edited_by held edits)) volume.limited (c.requires.change.formed fit)) (volume.serves kept up)) k);
    }

pub returns-clause-volume : goal.returns-clause-volume
unfolding volume_state volume_failures
returns-clause-volume g c =
    let word = g.D.Device.keeps_word in
    let volume = c.args.self.now in
    let old : Log = log_of volume.store.journal in
    let mid : Log = log_of c.outcome_of.new.base.journal in
    let new : Log = log_of c.apply.new.self in
    let nodes = volume.limits.nodes in
    let held = volume_state_by volume.version volume.limits volume.run volume.table old in
    let edits = c.args.edits.now in
    let outcome = c.in_ok-outcome.outcome in
    let comes = subst (λ (marking : Marking). ComesTo word marking (contents old) old.size volume.table volume.places edits outcome) c.marking.ensures c.in_ok-outcome.ensures.done in
    let health = c.in_ok-outcome.ensures.health.stays (λ faulted. cc) in
    let same : mid ≡ old = log_same old mid c.in_ok-outcome.ensures.kept (ap (λ (h : Health). h.is_down) health) in
    let failed : journal_failures c.outcome_of.new.base.journal ≡ journal_failures volume.store.journal = ap (λ (h : Health). h.failed) health in
    let safe : IsSafe word old new = subst (λ (log : Log). IsSafe word log new) same c.in_ok-apply.ensures.safe in
    let has : HasApplied word outcome.updates.items old new = subst (λ (log : Log). HasApplied word outcome.updates.items log new) same c.in_ok-apply.ensures.ok in
    let up : old.is_down ≡ false = sym c.is_down.ensures ∙ c.if-is_down.false in
    let fit : IsTrue (fits volume.limits (edited_by held edits)) =
    c.requires.fitting in
    subst (λ (cached_nodes : List (Option CachedNode)). VolumeChanges word (IsEdited held edits) held (volume_state_by volume.version volume.limits volume.run cached_nodes new) (journal_failures volume.store.journal) (journal_failures c.apply.new.self) Done)
    (sym c.settle.ensures)
    (apply_done word volume.version volume.limits volume.run volume.table (cached_nodes_after volume.table outcome) old new outcome.updates.items (with_tree held (edited_by held edits))
    (journal_failures volume.store.journal) (journal_failures c.apply.new.self) safe volume.placed (let later = c.in_ok-apply.ensures.answers.later in omega (arith, later, failed))
    (c.in_ok-apply.ensures.answers.stays_up (ap (λ (log : Log). log.is_down) same ∙ up) (λ fault. cc)) has (λ kept. volume.serves kept up)
    (λ kept. behind_serving word kept volume.version volume.served nodes volume.run old volume.table volume.places edits outcome volume.known.are_cached_nodes.count (whole_now volume.known) comes
    (subst (λ l. IsFormed l (stamp (volume.run + 1) 0) (edited_by held edits)) volume.limited (c.requires.change.formed fit)) (volume.serves kept up))
    (c.in_ok-apply.ensures.answers.none (λ fault. cc) ∙ failed))

pub returns-clause-shows : goal.returns-clause-shows
unfolding volume_state
returns-clause-shows g c =
    let word = g.D.Device.keeps_word in
    let volume = c.args.self.now in
    let old : Log = log_of volume.store.journal in
    let mid : Log = log_of c.outcome_of.new.base.journal in
    let new : Log = log_of c.apply.new.self in
    let nodes = volume.limits.nodes in
    let held = volume_state_by volume.version volume.limits volume.run volume.table old in
    let edits = c.args.edits.now in
    let outcome = c.in_ok-outcome.outcome in
    let comes = subst (λ (marking : Marking). ComesTo word marking (contents old) old.size volume.table volume.places edits outcome) c.marking.ensures c.in_ok-outcome.ensures.done in
    let health = c.in_ok-outcome.ensures.health.stays (λ faulted. cc) in
    let same : mid ≡ old = log_same old mid c.in_ok-outcome.ensures.kept (ap (λ (h : Health). h.is_down) health) in
    let safe : IsSafe word old new = subst (λ (log : Log). IsSafe word log new) same c.in_ok-apply.ensures.safe in
    let has : HasApplied word outcome.updates.items old new = subst (λ (log : Log). HasApplied word outcome.updates.items log new) same c.in_ok-apply.ensures.ok in
    let up : old.is_down ≡ false = sym c.is_down.ensures ∙ c.if-is_down.false in
    let fit : IsTrue (fits volume.limits (edited_by held edits)) =
    c.requires.fitting in
    subst (λ (cached_nodes : List (Option CachedNode)). ShowsTree word (edited_by held edits) (volume_state_by volume.version volume.limits volume.run cached_nodes new).tree)
    (sym c.settle.ensures)
    (record {
      outline = outline_after word volume.version volume.limits volume.run old volume.table volume.places edits outcome c.requires.change volume.known comes (contents new);
      tree_is = λ k. applied_tree word volume.version volume.limits volume.run volume.table (cached_nodes_after volume.table outcome) old new outcome.updates.items (with_tree held (edited_by held edits)) 0 0
          safe volume.placed (omega arith) (c.in_ok-apply.ensures.answers.stays_up (ap (λ (log : Log). log.is_down) same ∙ up) (λ fault. cc)) has (λ kept. volume.serves kept up)
          (λ kept. behind_serving word kept volume.version volume.served nodes volume.run old volume.table volume.places edits outcome volume.known.are_cached_nodes.count (whole_now volume.known) comes
          (subst (λ l. IsFormed l (stamp (volume.run + 1) 0) (edited_by held edits)) volume.limited (c.requires.change.formed fit)) (volume.serves kept up)) k;
    })
