-- What is said of a text that is written with characters replaced.

-- what was written, and how many characters were replaced
pub record Replacing (Says Replaced : Type 0) : Type 0 where
  pub answer : Says
  pub replaced : Replaced
