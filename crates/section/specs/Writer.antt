-- A writer of a buffer: the buffer, and how many bytes of it are written.
use Rattle.std.specs.Prelude.{ℕ, ◌+◌, ◌≤◌, List, ◌++◌, length, take, drop}
use Rattle.section.specs.declared.buffer.Writer.{Writer}
use Rattle.section.specs.Layout.{over}

-- there is room for n more bytes
abbrev pub HasRoom : Writer → ℕ → Type 0
HasRoom w n = w.written + n ≤ length w.out.now

-- a writer after it wrote these bytes: they follow those before, and what is behind them is as it was
unfoldable pub with_bytes : Writer → List ℕ → Writer
with_bytes w bytes =
    record w {
      out = record w.out { now = take w.written w.out.now ++ over bytes (drop w.written w.out.now) };
      written = w.written + length bytes;
    }
