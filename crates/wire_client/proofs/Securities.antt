-- Security parameters, as the code has them.
use Rattle.std.proofs.Common.{◌≡◌, ℕ, suc, List, [], ◌∷◌, ◌++◌, length, refl, ap}
use Rattle.std.specs.Prelude.{map}
use Rattle.std.specs.Int.{w32}
use Rattle.std.specs.List.{flat_map}
use Rattle.xdr.specs.Grammar.{number}
use Rattle.xdr.specs.Forms.{elements}
use Rattle.model.specs.Wire.WireTypes.{callback_security}
use Rattle.wire.specs.declared.small.CallbackSecurity.{CallbackSecurity}
use Rattle.wire.specs.SmallViews.{security_view}
use Rattle.wire_client.specs.Reading.{security_text}

each_text : (list : List CallbackSecurity) → flat_map callback_security.encoding (map security_view list) ≡ flat_map security_text list
each_text [] = refl
each_text (s ∷ list) = ap (λ (t : List ℕ). security_text s ++ t) (each_text list)

pub count : (list : List CallbackSecurity) → length (map security_view list) ≡ length list
count [] = refl
count (s ∷ list) = ap suc (count list)

pub securities_text : (list : List CallbackSecurity) → elements callback_security.encoding (map security_view list) ≡ number w32 (length list) ++ flat_map security_text list
unfolding elements
securities_text list = rw (each_text list, count list) refl
