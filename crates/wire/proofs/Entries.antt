-- The entries of a directory, as the code has them.
use Rattle.std.proofs.Common.{◌≡◌, ℕ, ◌≤◌, List, [], ◌∷◌, ◌++◌, length, All, refl, sym, ap, ◌∙◌, append_assoc, arith}
use Rattle.std.specs.Prelude.{map}
use Rattle.std.specs.Int.{w32}
use Rattle.std.specs.List.{AllByRecursion}
use Rattle.std.proofs.lemmas.List.Elements.{All-from_recursion}
use Rattle.xdr.specs.Grammar.{number}
use Rattle.xdr.specs.Forms.{links}
use Rattle.model.specs.Wire.WireAnswers.{entry}
use Rattle.wire.specs.declared.answers.Entry.{Entry}
use Rattle.wire.specs.AnswerViews.{entry_view, links_of, chain_of, EntryFits}

-- their chain
pub links-map : (es : List Entry) → links entry.encoding (map entry_view es) ≡ chain_of es
unfolding links chain_of
links-map [] = refl
links-map (e ∷ es) =
    ap (λ (t : List ℕ). number w32 1 ++ (entry.encoding (entry_view e) ++ t)) (links-map es)
    ∙ ap (λ (t : List ℕ). number w32 1 ++ t) (sym (append_assoc (entry.encoding (entry_view e)) (links_of es) (number w32 0)))
    ∙ sym (append_assoc (number w32 1) (entry.encoding (entry_view e) ++ links_of es) (number w32 0))
    ∙ ap (λ (t : List ℕ). t ++ number w32 0) (sym (append_assoc (number w32 1) (entry.encoding (entry_view e)) (links_of es)))

each_fits : (es : List Entry) → AllByRecursion entry.Fits (map entry_view es) → AllByRecursion EntryFits es
each_fits [] fits = tt
each_fits (e ∷ es) fits =
    let name : length e.name.now ≤ 4294967295 = fits.0.1.0 in
    let values : length e.attributes.values.now ≤ 4294967295 = fits.0.1.1.1 in
    ((omega arith, omega arith), each_fits es fits.1)

pub entries_fit : (es : List Entry) → AllByRecursion entry.Fits (map entry_view es) → All EntryFits es
entries_fit es fits = All-from_recursion EntryFits es (each_fits es fits)
