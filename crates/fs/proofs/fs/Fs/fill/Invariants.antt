use Rattle.std.proofs.Common.{map}
use Rattle.std.specs.List.{AllByRecursion}
use Rattle.directory.specs.Records.{IsRecord}
use Rattle.directory.specs.Rest.{rest_of}
use Rattle.fs.specs.Views.{fs_of}
use Rattle.fs.specs.Listing.{shown_entry}
use Rattle.fs.proofs.FillLaws.{IsFilled}
use Rattle.fs.proofs.fs.Fs.fill.Given as goal

abbrev pub invariant-loop-name : goal.invariant-loop-name
invariant-loop-name g l =
    let held = (fs_of l.self).volume in
    let listed = shown_entry held.limits held.tree l.cred l.hides_unreadable l.asked in
    (goal.iterator-loop-name g).can_next l.name-iterator ×
    (goal.iterator-loop-name g).is_finite l.name-iterator ×
    AllByRecursion IsRecord (rest_of l.name-iterator) ×
    IsFilled l.fn.room l.room (map listed (rest_of l.fn.names)) (map listed (rest_of l.name-iterator)) l.entries.items
