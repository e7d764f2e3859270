pub mod ReasonCases
pub mod Order
pub mod Parts
pub mod FirstAddress
pub mod FirstItem
pub mod RecordReasons
pub mod SideReasons
pub mod PresetReasons
