-- Pages, as the code encodes them.
use Rattle.std.proofs.Common.{◌≡◌, ℕ, List, [], ◌∷◌, ◌++◌, All, refl, sym, ap, ◌∙◌, append_assoc}
use Rattle.std.specs.Int.{w32}
use Rattle.std.specs.Prelude.{map}
use Rattle.std.proofs.lemmas.List.Elements.{All-from_recursion}
use Rattle.fs.specs.Listing.{PageFits}
use Rattle.fs.specs.declared.listing.Page.{Page}
use Rattle.model.specs.Wire.WireAnswers.{entry}
use Rattle.wire_attributes.specs.Listed.{EntryFits, entry_view}
use Rattle.wire_attributes.specs.declared.listed.ListedEntry.{ListedEntry}
use Rattle.xdr.specs.Forms.{links}
use Rattle.xdr.specs.Grammar.{number}
use Rattle.compound.specs.Pages.{chain_of, links_of}

pub links_map : (entries : List ListedEntry) → links entry.encoding (map entry_view entries) ≡ chain_of entries
unfolding links chain_of
links_map [] = refl
links_map (first ∷ rest) =
    ap (λ (t : List ℕ). number w32 1 ++ (entry.encoding (entry_view first) ++ t)) (links_map rest)
    ∙ ap (λ (t : List ℕ). number w32 1 ++ t) (sym (append_assoc (entry.encoding (entry_view first)) (links_of rest) (number w32 0)))
    ∙ sym (append_assoc (number w32 1) (entry.encoding (entry_view first) ++ links_of rest) (number w32 0))
    ∙ ap (λ (t : List ℕ). t ++ number w32 0) (sym (append_assoc (number w32 1) (entry.encoding (entry_view first)) (links_of rest)))

pub entries_fit : (page : Page) → PageFits page → All EntryFits page.entries.items
entries_fit page fits = All-from_recursion EntryFits page.entries.items fits
