-- The token that a server makes of a draw.
use Rattle.std.specs.Prelude.{ℕ, List, ◌++◌, codes}
use Rattle.base64.specs.Engines.{url_safe_no_pad}
use Rattle.base64.specs.GeneralPurpose.{encode_of}

-- the scheme that stands before a token's text in Authorization (RFC 6750, section 2.1)
abbrev pub bearer : List ℕ
bearer = codes "Bearer "

-- base64url of the draw without padding (RFC 4648, section 5) behind the scheme
unfoldable pub bearer_token : List ℕ → List ℕ
bearer_token draw = bearer ++ encode_of url_safe_no_pad draw
