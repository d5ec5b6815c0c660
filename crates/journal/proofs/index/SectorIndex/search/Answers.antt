use Rattle.std.proofs.Common.{rules}
use Rattle.std.proofs.lemmas.List.Sorted.{answers_always}
use Rattle.journal.proofs.Indexes.{searched}
use Rattle.journal.proofs.index.SectorIndex.search.Goals as goal

pub returns-clause-found : goal.returns-clause-found
returns-clause-found c = λ rising.
    let facts = c.binary_search_by_key.ensures in
    let by_sector = facts.position (λ entry. entry.0) (answers_always _ _ _ (λ f a r g called. search rules)) in
    rw (← c.deref.ensures.value) ((searched c.deref.result.now (rw c.deref.ensures.value rising) c.args.n c.binary_search_by_key.result facts.bound by_sector).found)

pub returns-clause-absent : goal.returns-clause-absent
returns-clause-absent c = λ rising.
    let facts = c.binary_search_by_key.ensures in
    let by_sector = facts.position (λ entry. entry.0) (answers_always _ _ _ (λ f a r g called. search rules)) in
    rw (← c.deref.ensures.value) ((searched c.deref.result.now (rw c.deref.ensures.value rising) c.args.n c.binary_search_by_key.result facts.bound by_sector).absent)
