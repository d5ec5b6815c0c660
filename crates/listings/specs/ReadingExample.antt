-- A listing worked out by hand: of "a", "b" and "c" the first READDIR has room for one entry. Then
-- "b" is removed and "d" is made, and the second goes on.
use Rattle.std.specs.Prelude.{List, [], ◌∷◌, ◌≡◌, map}
use Rattle.model.specs.Examples.FileExamples.{three, three_others, shown}
use Rattle.listings.specs.Readings.{Reading, AreWellFormed, AreReadings, all_answered}

pub record ReadingExample : Type 0 where
  pub readings : List Reading
  pub states : map (λ reading. reading.state) readings ≡ three ∷ three_others ∷ []
  pub well_formed : AreWellFormed readings
  pub listing : AreReadings 0 readings
  pub answered : all_answered readings
      ≡ shown 97 4294967297 ∷ shown 99 4294967299 ∷ shown 100 4294967301 ∷ []
