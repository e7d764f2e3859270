-- What the header says that was read of the sheet, word by word. Assumes nothing.
use Rattle.std.proofs.Common.{◌≡◌, ap}
use Rattle.sheet_rules.specs.declared.Header.{Header}
use Rattle.sheet_rules.specs.Rows.{version, area_count, item_count, bank_words, functions, address_place, rate_place, clear_address, record_areas}
use Rattle.sheet.specs.declared.headed.Headed.{Headed}

module _ (headed : Headed) where
  pub version_is : headed.header.version ≡ version headed.sheet.now
  version_is = ap (λ (h : Header). h.version) headed.read

  pub areas_is : headed.header.areas ≡ area_count headed.sheet.now
  areas_is = ap (λ (h : Header). h.areas) headed.read

  pub items_is : headed.header.items ≡ item_count headed.sheet.now
  items_is = ap (λ (h : Header). h.items) headed.read

  pub bank_is : headed.header.bank ≡ bank_words headed.sheet.now
  bank_is = ap (λ (h : Header). h.bank) headed.read

  pub functions_is : headed.header.functions ≡ functions headed.sheet.now
  functions_is = ap (λ (h : Header). h.functions) headed.read

  pub address_is : headed.header.address ≡ address_place headed.sheet.now
  address_is = ap (λ (h : Header). h.address) headed.read

  pub rate_is : headed.header.rate ≡ rate_place headed.sheet.now
  rate_is = ap (λ (h : Header). h.rate) headed.read

  pub clear_is : headed.header.clear ≡ clear_address headed.sheet.now
  clear_is = ap (λ (h : Header). h.clear) headed.read

  pub record_areas_is : headed.header.record_areas ≡ record_areas headed.sheet.now
  record_areas_is = ap (λ (h : Header). h.record_areas) headed.read
