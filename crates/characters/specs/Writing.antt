-- Room for a text behind what was written, and a text written there.
use Rattle.std.specs.Prelude.{ℕ, ◌+◌, ◌≤◌, ◌≡◌, List, length}
use Rattle.output.specs.Splice.{spliced}
use Rattle.characters.specs.declared.Writer.{Writer}

-- the buffer has room for a text
pub record Room (w : Writer) (text : List ℕ) : Type 0 where
  pub fits : w.at + length text ≤ length w.out.now

-- a text was written: the buffer afterwards, the place behind the text, the buffer's length as it was, and that it is the same buffer
pub record Wrote (old : Writer) (text : List ℕ) (new : Writer) : Type 0 where
  pub is : new.out.now ≡ spliced old.out.now old.at text
  pub after : new.at ≡ old.at + length text
  pub kept : length new.out.now ≡ length old.out.now
  pub same : new.out.ghost_name ≡ old.out.ghost_name

-- a buffer has room for a text at its front
pub record RoomFor (out text : List ℕ) : Type 0 where
  pub fits : length text ≤ length out

-- a text was written at a buffer's front: the buffer afterwards, the text's length, and the buffer's length as it was
pub record WroteFront (old text out : List ℕ) (n : ℕ) : Type 0 where
  pub is : out ≡ spliced old 0 text
  pub long : n ≡ length text
  pub kept : length out ≡ length old
