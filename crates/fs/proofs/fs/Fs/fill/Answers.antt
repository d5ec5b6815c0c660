use Rattle.std.proofs.Common.{◌+◌, ℕ, List, ◌∷◌, map, ap, subst, arith}
use Rattle.std.specs.List.{AllByRecursion}
use Rattle.directory.specs.Records.{IsRecord, Record}
use Rattle.directory.specs.Rest.{rest_of}
use Rattle.fs.specs.Views.{fs_of}
use Rattle.fs.specs.Listing.{shown_entry}
use Rattle.wire_attributes.specs.Listed.{entry_view}
use Rattle.fs.proofs.FillLaws as laws
use Rattle.fs.proofs.fs.Fs.fill.Goals as goal

pub loop-name-preserved : goal.loop-name-preserved
loop-name-preserved g c =
    let held = (fs_of c.args.self.now).volume in
    let listed = shown_entry held.limits held.tree c.args.cred.now c.args.hides_unreadable c.args.asked.now in
    let all = map listed (rest_of c.args.names) in
    let rest = map listed (rest_of c.next.new.self) in
    let metadata = c.loop-name.entries.items in
    let filled : laws.IsFilled c.args.room c.loop-name.room all (entry_view c.listed-entry.result ∷ rest) metadata =
    rw c.listed-entry.ensures.view (subst (λ (l : List Record). laws.IsFilled c.args.room c.loop-name.room all (map listed l) metadata) c.in-Some.ensures.steps c.loop-name.invariant.3) in
    let each = subst (AllByRecursion IsRecord) c.in-Some.ensures.steps c.loop-name.invariant.2 in (
      tt,
      tt,
      each.1,
      rw c.in_ok-push.ensures.items (laws.one_more c.args.room c.loop-name.room all rest metadata c.listed-entry.result (4 + c.size-size.result) filled c.listed-entry.ensures.fits
          (ap (λ (n : ℕ). 4 + n) c.size-size.ensures.value) (omega (arith, c.if-room-size.false))),
    )

pub returns-clause-page : goal.returns-clause-page
returns-clause-page g c =
    let held = (fs_of c.args.self.now).volume in
    let listed = shown_entry held.limits held.tree c.args.cred.now c.args.hides_unreadable c.args.asked.now in
    let all = map listed (rest_of c.args.names) in
    laws.ended c.args.room c.loop-name.room all c.loop-name.entries.items
    (subst (λ (l : List Record). laws.IsFilled c.args.room c.loop-name.room all (map listed l) c.loop-name.entries.items) c.in-None.ensures.steps.0 c.loop-name.invariant.3)

pub returns-then-room-size-clause-page : goal.returns-then-room-size-clause-page
returns-then-room-size-clause-page g c =
    let held = (fs_of c.args.self.now).volume in
    let listed = shown_entry held.limits held.tree c.args.cred.now c.args.hides_unreadable c.args.asked.now in
    let all = map listed (rest_of c.args.names) in
    let rest = map listed (rest_of c.next.new.self) in
    let metadata = c.loop-name.entries.items in
    let filled : laws.IsFilled c.args.room c.loop-name.room all (entry_view c.listed-entry.result ∷ rest) metadata =
    rw c.listed-entry.ensures.view (subst (λ (l : List Record). laws.IsFilled c.args.room c.loop-name.room all (map listed l) metadata) c.in-Some.ensures.steps c.loop-name.invariant.3) in
    laws.full c.args.room c.loop-name.room all rest metadata (entry_view c.listed-entry.result) filled (omega (arith, c.size-size.ensures.value, c.if-room-size.true))
