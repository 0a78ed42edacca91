-- What is looked up in a request's headers.
use Rattle.std.specs.Prelude.{ℕ, Bool, false, List, find, Option, codes, option_map, unwrap_or}
use Rattle.std.specs.Str.{bytes_eq}
use Rattle.ev_model.specs.Conditions.{Requested, header_value, is_grpc}

-- the value of the first of these headers that has the name
abbrev pub value_in : List (List ℕ × List ℕ) → List ℕ → Option (List ℕ)
value_in headers name = option_map (λ (header : List ℕ × List ℕ). header.1) (find (λ (header : List ℕ × List ℕ). bytes_eq header.0 name) headers)

-- the method is CONNECT
abbrev pub is_connect : Requested → Bool
is_connect request = unwrap_or (option_map (bytes_eq (codes "CONNECT")) (header_value request (codes ":method"))) false

-- the content type is that of gRPC
abbrev pub has_grpc_type : Requested → Bool
has_grpc_type request = unwrap_or (option_map is_grpc (header_value request (codes "content-type"))) false
