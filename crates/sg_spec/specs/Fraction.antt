-- Fractions of whole numbers of any size. They are those of the algebra, where the first level of data are these fractions;
-- the words stand in that file: Fraction, Same, whole, plus, minus, times, over.
pub use Rattle.sg_algebra.specs.Fraction.{Fraction, Same, whole, plus, minus, times, with_sign_of, over}
