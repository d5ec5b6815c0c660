-- How entries of a directory are encoded.
use Rattle.std.proofs.Common.{◌≡◌, ℕ, ◌+◌, List, [], ◌∷◌, ◌++◌, length, arith}
use Rattle.std.specs.Int.{w32, w64}
use Rattle.std.proofs.lemmas.List.{length-append}
use Rattle.xdr.specs.Grammar.{number}
use Rattle.xdr.specs.Forms.{counted, elements}
use Rattle.xdr.proofs.Sizes.{elements_length, counted_length}
use Rattle.xdr.proofs.Numbers.{length-number_32, length-number_64}
use Rattle.model.specs.Operations.Operation.{Attributes}
use Rattle.model.specs.Attributes.NodeAttributes.{unreadable}
use Rattle.model.specs.Wire.WireAnswers.{answered_attributes, entry}
use Rattle.wire_attributes.specs.declared.listed.ListedEntry.{ListedEntry}
use Rattle.wire_attributes.specs.Listed.{entry_view, listed_view}

abbrev gone : Attributes
gone = record { bitmap = []; values = [] }

pub gone_length : length (answered_attributes.encoding gone) ≡ 8
gone_length =
    omega (arith, length-append (elements (λ n. number w32 n) []) (counted []), elements_length [], counted_length [])

pub unreadable_length : length (answered_attributes.encoding unreadable) ≡ 16
unreadable_length =
    let values = number w32 13 in
    omega (arith, length-append (elements (λ n. number w32 n) (0x800 ∷ [])) (counted values), elements_length (0x800 ∷ []), counted_length values, length-number_32 13)

pub listed_length : (e : ListedEntry) (m n : ℕ) → m ≡ length (counted e.name.now) → n ≡ length (answered_attributes.encoding (listed_view e.attributes)) → 8 + m + n ≡ length (entry.encoding (entry_view e))
listed_length e m n is_m is_n =
    let attributes : List ℕ = answered_attributes.encoding (listed_view e.attributes) in
    omega (arith, is_m, is_n, length-append (number w64 e.cookie) (counted e.name.now ++ attributes), length-append (counted e.name.now) attributes, length-number_64 e.cookie)
