-- A message taken apart.
use Rattle.std.specs.Prelude.{◌≡◌, ℕ, List, Result, Ok, Err}
use Rattle.fuse_header.specs.Header.{header, body}
use Rattle.fuse_header.specs.declared.error.RequestError.{RequestError}
use Rattle.fuse_header.specs.declared.header.Header.{Header}
use Rattle.fuse_request.specs.declared.any_request.AnyRequest.{AnyRequest}

-- what a decoded message holds
abbrev pub header_of : AnyRequest → Header
header_of request = request.header

abbrev pub body_of : AnyRequest → List ℕ
body_of request = request.body.now

-- a message decodes exactly where its header is good, to that header and its body
abbrev pub Decodes : Result AnyRequest RequestError → List ℕ → Type 0
Decodes (Ok request) m = (header m ≡ Ok (header_of request)) × (body_of request ≡ body m)
Decodes (Err e) m = header m ≡ Err e
