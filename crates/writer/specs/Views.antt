-- A window onto a text that is written bit by bit: what of it lies in the buffer.
use Rattle.std.specs.Prelude.{◌≡◌, ℕ, ◌-◌, List, [], ◌++◌, length, take, drop, codes, refl}
use Rattle.writer.specs.declared.window.Window.{Window}

pub record View : Type 0 where
  -- how many bytes of the text are still before the window
  pub skip : ℕ
  -- the places of the buffer that are filled, and those that are not
  pub done : List ℕ
  pub rest : List ℕ

unfoldable pub view_of : Window → View
view_of w = record { skip = w.skip; done = take w.at w.out.now; rest = drop w.at w.out.now }

-- nothing written yet, of a text from byte `from` on
unfoldable pub begun : ℕ → List ℕ → View
begun from out = record { skip = from; done = []; rest = out }

-- more of the text: what of it is not skipped goes to the places that are left
unfoldable pub onto : View → List ℕ → View
onto v bytes = record {
  skip = v.skip - length bytes;
  done = v.done ++ take (length v.rest) (drop v.skip bytes);
  rest = drop (length (drop v.skip bytes)) v.rest;
}

-- more of the text was put through a window: it lies over the same buffer still, and ends lines as before
pub record Puts (was now : Window) (bytes : List ℕ) : Type 0 where
  pub view : view_of now ≡ onto (view_of was) bytes
  pub buffer : now.out.ghost_name ≡ was.out.ghost_name
  pub end : now.end ≡ was.end

example : onto (record { skip = 1; done = codes "a"; rest = codes "...." }) (codes "xbc") ≡ record { skip = 0; done = codes "abc"; rest = codes ".." }
unfolding onto
example = refl
