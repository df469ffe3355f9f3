-- Certificates and CSRs at the limit of their size (RFC 8555, 7.4, 7.4.2).
use Rattle.desk_model.specs.{Rules.if_fits, declared.call.OfficeAsk.OfficeAsk}
use Rattle.std.specs.Prelude.{◌≡◌, ℕ, [], ◌∷◌, replicate, codes, Some, None}
use Rattle.desk_model.specs.declared.call.OfficeAsk.TheVariants as office
use Rattle.model_examples.specs.Entries.{answered, reported, good, finalized, certified, History}
use Rattle.model_examples.specs.{Offices.Notes, Offices.Turns, Texts.too_large, Calls.on, Calls.order_desk, Calls.default_terms}

-- the order is processing
abbrev pub processing_desk : History
processing_desk = on 0 (finalized 1 (1 ∷ [])) ∷ on 0 (reported 1 good) ∷ on 0 (answered 1) ∷ order_desk default_terms

-- a certificate of so many bytes is handed in
abbrev pub certifying : ℕ → OfficeAsk
certifying n = office.Certify 1 (replicate n 65)

-- certificates and CSRs at the limit of their size
pub record CertificatesHaveLimits : Type 0 where
  -- a certificate of 65536 bytes
  pub largest_certificate : Notes processing_desk (certifying 65536)
      (codes "{\"authorizations\":[\"https://ca.example/authz/1\"],\"certificate\":\"https://ca.example/cert/1\",\"expires\":\"1970-01-08T00:00:00Z\",\"finalize\":\"https://ca.example/order/1/finalize\",\"identifiers\":[{\"type\":\"dns\",\"value\":\"a.example\"}],\"status\":\"valid\"}")
      (certified 1 (replicate 65536 65))
  -- and one more
  pub too_large_certificate : Turns processing_desk (certifying 65537) 413 too_large
  -- the bytes of the longest CSR; its text is too long to be computed
  pub largest_csr : if_fits (replicate 8192 0) ≡ Some (replicate 8192 0)
  -- and one more byte
  pub too_large_csr : if_fits (replicate 8193 0) ≡ None
