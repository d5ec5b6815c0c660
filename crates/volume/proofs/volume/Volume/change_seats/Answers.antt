use Rattle.std.proofs.Common.{◌≡◌, ◌≤◌, ◌∙◌, ℕ, false, length, sym, ap, subst, arith}
use Rattle.std.specs.Prelude.{IsTrue, Err}
use Rattle.disk.specs.Moments.{moment}
use Rattle.journal.specs.Journal.{log_of, journal_failures}
use Rattle.journal.specs.declared.layout.LogArea.{LogArea}
use Rattle.journal.specs.Layout.{AreTargets, max_updates, targets}
use Rattle.journal.specs.Log.{Log, contents}
use Rattle.layout.specs.Stands.{Kept}
use Rattle.layout.specs.Versions.{data_end_by, limits_by, log_by, size_by}
use Rattle.model_tree.specs.Seats.SeatEdits.{edited_all, edits_view}
use Rattle.volume.specs.Known.{AreKnownNodes}
use Rattle.volume.specs.Refusals.{fault_of}
use Rattle.volume.specs.Views.{volume_state_by, volume_state, volume_failures}
use Rattle.volume.proofs.ApplyLaws.{applied_serves, applied_tree, apply_done, apply_refused}
use Rattle.volume.proofs.FormedLaws.{shows_same}
use Rattle.volume.proofs.SeatingLaws.{seats_behind, up_applied}
use Rattle.volume.proofs.SeatPlaces.{few_enough, seats_below}
use Rattle.volume.proofs.ServeLaws.{flush_costs, is_err_of}
use Rattle.volume.proofs.StandLaws.{is_number, placed_on}
use Rattle.volume.proofs.KeepLaws.{left}
use Rattle.volume.specs.declared.fault.VolumeFault.TheVariants as fault
use Rattle.volume.proofs.volume.Volume.change_seats.Goals as goal

pub returns-then-is_down-clause-volume : goal.returns-then-is_down-clause-volume
returns-then-is_down-clause-volume g c = left g.D.Device.keeps_word _ (volume_state c.args.self.now) (volume_failures c.args.self.now)

pub returns-in_err-updates-clause-shows : goal.returns-in_err-updates-clause-shows
returns-in_err-updates-clause-shows g c = rw (is_err_of c.from_residual.result fault.Memory c.from_residual.ensures.1) (tt)

pub returns-in_err-updates-clause-volume : goal.returns-in_err-updates-clause-volume
returns-in_err-updates-clause-volume g c = rw (is_err_of c.from_residual.result fault.Memory c.from_residual.ensures.1) (left g.D.Device.keeps_word _ (volume_state c.args.self.now) (volume_failures c.args.self.now))

pub returns-in_err-apply-clause-shows : goal.returns-in_err-apply-clause-shows
returns-in_err-apply-clause-shows g c = rw (is_err_of c.from_residual-in_err-apply.result (fault_of c.in_err-apply.field-0.0) c.from_residual-in_err-apply.ensures.1) (tt)

pub updates_of-requires : goal.updates_of-requires
updates_of-requires g c = is_number c.args.self.now.version c.args.self.now.served

pub apply-requires : goal.apply-requires
apply-requires g c =
    let volume = c.args.self.now in
    let version = volume.version in
    let old : Log = log_of volume.store.journal in
    subst (λ (area : LogArea). AreTargets area.end (targets c.in_ok-updates.updates.items)) (sym volume.placed)
    (c.in_ok-updates.ensures.targets_are (log_by version old.size).end (seats_below version old.size volume.limits.nodes (is_number version volume.served) volume.sized))

pub returns-in_err-apply-clause-volume : goal.returns-in_err-apply-clause-volume
unfolding volume_state volume_failures
returns-in_err-apply-clause-volume g c =
    let volume = c.args.self.now in
    let old : Log = log_of volume.store.journal in
    let new : Log = log_of c.apply.new.self in
    let fault = c.in_err-apply.field-0.0 in
    let told = is_err_of c.from_residual-in_err-apply.result (fault_of fault) c.from_residual-in_err-apply.ensures.1 in
    let up : old.is_down ≡ false = sym c.is_down.ensures ∙ c.if-is_down.false in
    let held = volume_state_by volume.version volume.limits volume.run volume.table old in
    let after : Kept = record { tree = held.tree; seats = edited_all (edits_view c.args.edits.now) held.seats } in
    let few : length c.in_ok-updates.updates.items ≤ max_updates old.area = few_enough volume.version old.area old.size _ (is_number volume.version volume.served) volume.placed c.in_ok-updates.ensures.few in
    rw told (apply_refused g.D.Device.keeps_word volume.version volume.limits volume.run volume.table old new after _ _ fault c.in_err-apply.ensures.safe volume.placed up
    (λ many. (let bound = (c.in_err-apply.ensures.too_many up).0 (ap (λ x. Err x) many) in omega (arith, bound, few))) c.in_err-apply.ensures.answers c.in_err-apply.ensures.refuses)

pub returns-in_err-apply-clause-brief : goal.returns-in_err-apply-clause-brief
unfolding volume_state
returns-in_err-apply-clause-brief g c = λ k.
    let old : Log = log_of c.args.self.now.store.journal in
    let new : Log = log_of c.apply.new.self in
    flush_costs c.args.self.now.version old.area old.size (moment old.history) (moment new.history) c.args.self.now.placed (c.in_err-apply.ensures.safe.brief k)

pub returns-clause-brief : goal.returns-clause-brief
unfolding volume_state
returns-clause-brief g c = λ k.
    let old : Log = log_of c.args.self.now.store.journal in
    let new : Log = log_of c.apply.new.self in
    flush_costs c.args.self.now.version old.area old.size (moment old.history) (moment new.history) c.args.self.now.placed (c.in_ok-apply.ensures.safe.brief k)

pub invariant_of-self : goal.invariant_of-self
unfolding volume_state
invariant_of-self g c =
    let volume = c.args.self.now in
    let version = volume.version in
    let old : Log = log_of volume.store.journal in
    let new : Log = log_of c.apply.new.self in
    let nodes = volume.limits.nodes in
    let edits = edits_view c.args.edits.now in
    let held = volume_state_by version volume.limits volume.run volume.table old in
    let after : Kept = record { tree = held.tree; seats = edited_all edits held.seats } in
    let updates = c.in_ok-updates.updates.items in
    let did = c.apply.ensures in
    let size : old.size ≡ new.size = sym did.safe.size in
    let up : old.is_down ≡ false = sym c.is_down.ensures ∙ c.if-is_down.false in
    let few : length updates ≤ max_updates old.area = few_enough version old.area old.size _ (is_number version volume.served) volume.placed c.in_ok-updates.ensures.few in
    record {
      bounded = volume.bounded;
      served = volume.served;
      sized = subst (λ (n : ℕ). IsTrue (size_by version n nodes)) size volume.sized;
      limited = volume.limited ∙ ap (λ (n : ℕ). limits_by version n nodes) size;
      formed = volume.formed;
      known = subst (λ (n : ℕ). AreKnownNodes (data_end_by version n) nodes volume.table volume.places) size volume.known;
      named = volume.named;
      placed = placed_on version new.area old.area new.size old.size did.safe.area did.safe.size volume.placed;
      serves = λ k is_up.
          let has = up_applied g.D.Device.keeps_word old new _ _ _ c.apply.result did.ok did.answers did.refuses
          (λ many. (let bound = (did.too_many up).0 many in omega (arith, bound, few))) is_up in
          applied_serves g.D.Device.keeps_word version volume.limits volume.run volume.table volume.table old new updates after 0 0 did.safe volume.placed (omega arith) is_up has
          (λ kept. volume.serves kept up)
          (λ kept. seats_behind version volume.served nodes volume.run old volume.table edits updates c.in_ok-updates.ensures (c.requires kept) (volume.serves kept up)) k;
    }

pub returns-clause-volume : goal.returns-clause-volume
unfolding volume_state volume_failures
returns-clause-volume g c =
    let volume = c.args.self.now in
    let version = volume.version in
    let old : Log = log_of volume.store.journal in
    let new : Log = log_of c.apply.new.self in
    let nodes = volume.limits.nodes in
    let edits = edits_view c.args.edits.now in
    let held = volume_state_by version volume.limits volume.run volume.table old in
    let after : Kept = record { tree = held.tree; seats = edited_all edits held.seats } in
    let updates = c.in_ok-updates.updates.items in
    let did = c.in_ok-apply.ensures in
    let up : old.is_down ≡ false = sym c.is_down.ensures ∙ c.if-is_down.false in
    apply_done g.D.Device.keeps_word version volume.limits volume.run volume.table volume.table old new updates after (journal_failures volume.store.journal) (journal_failures c.apply.new.self)
    did.safe volume.placed did.answers.later (did.answers.stays_up up (λ faulted. cc)) did.ok
    (λ kept. volume.serves kept up)
    (λ kept. seats_behind version volume.served nodes volume.run old volume.table edits updates c.in_ok-updates.ensures (c.requires kept) (volume.serves kept up))
    (did.answers.none (λ faulted. cc))

pub returns-clause-shows : goal.returns-clause-shows
unfolding volume_state
returns-clause-shows g c =
    let volume = c.args.self.now in
    let version = volume.version in
    let old : Log = log_of volume.store.journal in
    let new : Log = log_of c.apply.new.self in
    let nodes = volume.limits.nodes in
    let edits = edits_view c.args.edits.now in
    let held = volume_state_by version volume.limits volume.run volume.table old in
    let after : Kept = record { tree = held.tree; seats = edited_all edits held.seats } in
    let updates = c.in_ok-updates.updates.items in
    let did = c.in_ok-apply.ensures in
    let up : old.is_down ≡ false = sym c.is_down.ensures ∙ c.if-is_down.false in
    shows_same g.D.Device.keeps_word (contents old) (contents new) volume.table
    (applied_tree g.D.Device.keeps_word version volume.limits volume.run volume.table volume.table old new updates after 0 0 did.safe volume.placed (omega arith) (did.answers.stays_up up (λ faulted. cc)) did.ok
    (λ kept. volume.serves kept up)
    (λ kept. seats_behind version volume.served nodes volume.run old volume.table edits updates c.in_ok-updates.ensures (c.requires kept) (volume.serves kept up)))
