use Rattle.std.proofs.Common.{arith}
use Rattle.std.proofs.lemmas.List.{length-append}
use Rattle.xdr.proofs.Sizes.{padded_length}
use Rattle.xdr.proofs.Numbers.{length-number_32, length-number_64}
use Rattle.wire.proofs.Entries.{links-map, entries_fit}
use Rattle.wire.proofs.Sizes.{create_session_length}
use Rattle.wire.proofs.outcome.Answer.size.Goals as goal

pub returns-in-Access : goal.returns-in-Access
returns-in-Access c = rw c.in-Access.is (simp (length-append, length-number_32, length-number_64, padded_length) (omega arith))

pub returns-in-Create : goal.returns-in-Create
returns-in-Create c = rw c.in-Create.is (simp (length-append, length-number_32, length-number_64, padded_length) (omega arith))

pub returns-in-Read : goal.returns-in-Read
returns-in-Read c = rw c.in-Read.is (simp (length-append, length-number_32, length-number_64, padded_length) (omega arith))

pub returns-in-Remove : goal.returns-in-Remove
returns-in-Remove c = rw c.in-Remove.is (simp (length-append, length-number_32, length-number_64, padded_length) (omega arith))

pub returns-in-Rename : goal.returns-in-Rename
returns-in-Rename c = rw c.in-Rename.is (simp (length-append, length-number_32, length-number_64, padded_length) (omega arith))

pub returns-in-ExchangeId : goal.returns-in-ExchangeId
returns-in-ExchangeId c = rw c.in-ExchangeId.is (simp (length-append, length-number_32, length-number_64, padded_length) (omega arith))

pub returns-in-Close : goal.returns-in-Close
returns-in-Close c =
    let fits = rw c.in-Close.is at c.requires.fits in
    rw c.in-Close.is (simp (length-append, length-number_32, length-number_64, padded_length) (omega (arith, fits.1)))

pub returns-in-Commit : goal.returns-in-Commit
returns-in-Commit c =
    let fits = rw c.in-Commit.is at c.requires.fits in
    rw c.in-Commit.is (simp (length-append, length-number_32, length-number_64, padded_length) (omega (arith, fits)))

pub returns-in-Open : goal.returns-in-Open
returns-in-Open c =
    let fits = rw c.in-Open.is at c.requires.fits in
    rw c.in-Open.is (simp (length-append, length-number_32, length-number_64, padded_length) (omega (arith, fits.0.1)))

pub returns-in-Write : goal.returns-in-Write
returns-in-Write c =
    let fits = rw c.in-Write.is at c.requires.fits in
    rw c.in-Write.is (simp (length-append, length-number_32, length-number_64, padded_length) (omega (arith, fits.1.1)))

pub returns-in-CreateSession : goal.returns-in-CreateSession
returns-in-CreateSession c =
    let fits = rw c.in-CreateSession.is at c.requires.fits in
    rw c.in-CreateSession.is
    (create_session_length c.in-CreateSession.a c.size-in-CreateSession.result c.size-in-CreateSession-2.result fits.0
    c.size-in-CreateSession.ensures.value c.size-in-CreateSession-2.ensures.value)

pub returns-in-Sequence : goal.returns-in-Sequence
returns-in-Sequence c =
    let fits = rw c.in-Sequence.is at c.requires.fits in
    rw c.in-Sequence.is (simp (length-append, length-number_32, length-number_64, padded_length) (omega (arith, fits.0)))

pub entries_size-requires-clause-fits : goal.entries_size-requires-clause-fits
entries_size-requires-clause-fits c =
    let fits = rw c.in-ReadDir.is at c.requires.fits in
    rw c.deref.ensures.value (entries_fit c.in-ReadDir.a.entries.items fits.1.0)

pub entries_size-requires-clause-small : goal.entries_size-requires-clause-small
entries_size-requires-clause-small c =
    let all = rw c.in-ReadDir.is at c.requires.small in
    let small = simp (length-append, links-map, length-number_64, length-number_32) at all in
    rw c.deref.ensures.value (omega (arith, small))

pub overflow_add-result-in-ReadDir : goal.overflow_add-result-in-ReadDir
overflow_add-result-in-ReadDir c =
    let all = rw c.in-ReadDir.is at c.requires.small in
    let small = simp (length-append, links-map, length-number_64, length-number_32) at all in
    let size = rw c.deref.ensures.value at c.entries_size.ensures in
    omega (arith, small, size)

pub returns-in-ReadDir : goal.returns-in-ReadDir
returns-in-ReadDir c =
    let size = rw c.deref.ensures.value at c.entries_size.ensures in
    rw c.in-ReadDir.is (simp (length-append, links-map, length-number_64, length-number_32) (omega (arith, size)))
