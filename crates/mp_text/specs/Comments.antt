-- Lines of comments, in a file that has them.
use Rattle.std.specs.Prelude.{ℕ, Bool, ◌&&◌, List}
use Rattle.std.specs.List.{list_all}
use Rattle.mp_text.specs.declared.layout.Layout.TheVariants.{Commented}
use Rattle.mp_text.specs.Text.{says_nothing}
use Rattle.mp_text.specs.Report.{is_token}

-- tokens that make a line of a comment, or an empty one
abbrev pub is_comment_line : List (List ℕ) → Bool
is_comment_line tokens = list_all is_token tokens && says_nothing Commented tokens
